-- The steps of a clock on a list of entries.
use Rattle.std.proofs.Common.{ℕ, inl, inr, zero, suc, ◌+◌, ◌<◌, ◌≡◌, true, false, nat_eq, is_none, Some, List, [], ◌∷◌}
use Rattle.std.proofs.Common.{length, refl, ap, ◌∙◌, arith}
use Rattle.std.specs.List.{slice_get, find}
use Rattle.std.specs.Option.{option_map}
use Rattle.std.proofs.lemmas.Bool.{cases_Bool}
use Rattle.fsb_trace.specs.declared.outcome.Outcome.{Outcome}
use Rattle.fsb_queue.specs.declared.entry.Entry.{Entry}
use Rattle.fsb_queue.specs.Entries.{settled_at}
use Rattle.fsb_flight.specs.Steps.{settle_first, number_before}

-- the first entry without an outcome, by its place
pub settle_first-at : (o : Outcome) (es : List Entry) (k : ℕ) (e : Entry) → slice_get es k ≡ Some e
    → is_none e.outcome ≡ true → ((j : ℕ) (y : Entry) → j < k → slice_get es j ≡ Some y
    → is_none y.outcome ≡ false) → settle_first o es ≡ settled_at k o es
unfolding settle_first settled_at
settle_first-at o [] k e g t f = absurd (let none : ⊥ = cc in none)
settle_first-at o (z ∷ zs) zero e g t f =
    let same : z ≡ e = cc in
    let here : is_none z.outcome ≡ true = ap (λ y. is_none y.outcome) same ∙ t in
    rw here refl
settle_first-at o (z ∷ zs) (suc k) e g t f =
    rw (f 0 z (omega arith) refl)
    (ap (λ r. z ∷ r) (settle_first-at o zs k e g t (λ j y l h. f (suc j) y (omega arith) h)))

pub settle_first-none : (o : Outcome) (es : List Entry)
    → ((j : ℕ) (y : Entry) → slice_get es j ≡ Some y → is_none y.outcome ≡ false) → settle_first o es ≡ es
unfolding settle_first
settle_first-none o [] f = refl
settle_first-none o (z ∷ zs) f =
    rw (f 0 z refl) (ap (λ r. z ∷ r) (settle_first-none o zs (λ j y g. f (suc j) y g)))

pub length-settled_at : (k : ℕ) (o : Outcome) (es : List Entry) → length (settled_at k o es) ≡ length es
unfolding settled_at
length-settled_at k o [] = refl
length-settled_at zero o (e ∷ es) = refl
length-settled_at (suc k) o (e ∷ es) = ap (λ n. suc n) (length-settled_at k o es)

-- the number of the first entry that began three clocks before
pub number_before-find : (n : ℕ) (es : List Entry)
    → number_before n es ≡ option_map (λ e. e.number) (find (λ e. nat_eq (e.clock + 3) n) es)
unfolding number_before
number_before-find n [] = refl
number_before-find n (z ∷ zs) =
    elim (cases_Bool (nat_eq (z.clock + 3) n)) [
      | inl t ↦ rw t refl
      | inr f ↦ rw f (number_before-find n zs)
    ]
