-- The verdict of ownership, one sample on.
use Rattle.std.proofs.Common.{ℕ, suc, ◌+◌, ◌<◌, ◌≡◌, Bool, true, false, length, List, Option, Some, None, is_some}
use Rattle.std.proofs.Common.{refl, sym, ap, ◌∙◌, arith, if◌then◌else◌, add-one}
use Rattle.std.specs.Option.{option_and_then, option_map}
use Rattle.std.proofs.lemmas.Bool.{lt-ltb}
use Rattle.fsb_count.specs.Clocks.{first_where}
use Rattle.fsb_count.proofs.Interface.{first_where-found, first_where-same}
use Rattle.fsb_signal.specs.declared.sample.Sample.{Sample}
use Rattle.fsb_trace.specs.Agree.{AgreeTo}
use Rattle.fsb_trace.specs.At.{Trace}
use Rattle.fsb_trace.proofs.Interface.{AgreeTo-less, take-agree}
use Rattle.fsb_laws.specs.OneMore.{OneMore}
use Rattle.fsb_owners.specs.Joint.{Joint}
use Rattle.fsb_owners.specs.Least.{is_some_broken, least_at, least_broken}
use Rattle.fsb_owner_laws.specs.OneClock.{or_at}
use Rattle.fsb_owners.specs.Rules.{is_ownership_broken, ownership_verdict}

same_rule : (p q : ℕ → ℕ → Bool) (m c : ℕ) → ((j : ℕ) → p c j ≡ q c j) → least_at p m c ≡ least_at q m c
unfolding least_at
same_rule p q m c h = first_where-same (p c) (q c) m (record { same = λ j l. h j })

some_rule : (p q : ℕ → ℕ → Bool) (m c : ℕ) → ((j : ℕ) → p c j ≡ q c j) → is_some_broken p m c ≡ is_some_broken q m c
unfolding is_some_broken
some_rule p q m c h = ap (λ o. is_some o) (same_rule p q m c h)

-- the least rule at the first clock, if there is one
abbrev rule_of : (ℕ → ℕ → Bool) → ℕ → Option ℕ → Option (ℕ × ℕ)
rule_of p m o = option_and_then (λ c. option_map {U = ℕ × ℕ} (λ j. (c, j)) (least_at p m c)) o

there : (q : ℕ → ℕ → Bool) (m n c : ℕ) (o : Option ℕ) → is_some o ≡ true
    → option_map {U = ℕ × ℕ} (λ j. (c, j)) o ≡ or_at q m n (option_map {U = ℕ × ℕ} (λ j. (c, j)) o)
there q m n c (Some j) t = refl
there q m n c None t = absurd (let no : ⊥ = cc in no)

none_there : (n : ℕ) (o : Option ℕ) → is_some o ≡ false → None ≡ option_map {U = ℕ × ℕ} (λ j. (n, j)) o
none_there n None e = refl
none_there n (Some j) e = absurd (let no : ⊥ = cc in no)

at_last : (q : ℕ → ℕ → Bool) (m n : ℕ) (b : Bool) → is_some_broken q m n ≡ b
    → rule_of q m (if b then Some n else None) ≡ option_map {U = ℕ × ℕ} (λ j. (n, j)) (least_at q m n)
unfolding is_some_broken
at_last q m n true e = refl
at_last q m n false e = none_there n (least_at q m n) e

broken_there : (p : ℕ → ℕ → Bool) (m c : ℕ) → is_some_broken p m c ≡ true → is_some (least_at p m c) ≡ true
unfolding is_some_broken
broken_there p m c t = t

least_by : (p q : ℕ → ℕ → Bool) (m n : ℕ) (o : Option ℕ) → ((d i : ℕ) → d < n → p d i ≡ q d i)
    → first_where (is_some_broken p m) n ≡ o
    → rule_of q m (elim o [ Some c ↦ Some c | None ↦ if is_some_broken q m n then Some n else None ]) ≡ or_at q m n (rule_of p m o)
least_by p q m n None h e = at_last q m n (is_some_broken q m n) refl
least_by p q m n (Some c) h e =
    let f = first_where-found (is_some_broken p m) n c e in
    let same : least_at q m c ≡ least_at p m c = sym (same_rule p q m c (λ j. h c j f.0)) in
    ap (option_map {U = ℕ × ℕ} (λ j. (c, j))) same ∙ there q m n c (least_at p m c) (broken_there p m c f.1)

least_more : (p q : ℕ → ℕ → Bool) (m n : ℕ) → ((d i : ℕ) → d < n → p d i ≡ q d i)
    → least_broken q m (suc n) ≡ or_at q m n (least_broken p m n)
unfolding least_broken first_where
least_more p q m n h =
    ap (λ o. rule_of q m (elim o [ Some c ↦ Some c | None ↦ if is_some_broken q m n then Some n else None ]))
    (first_where-same (is_some_broken q m) (is_some_broken p m) n (record { same = λ d l. sym (some_rule p q m d (λ j. h d j l)) }))
    ∙ least_by p q m n (first_where (is_some_broken p m) n) h refl

broken_before : (first : List Joint) (h v : Trace) (c j : ℕ) → AgreeTo (length h) h v → c < length h
    → is_ownership_broken first h c j ≡ is_ownership_broken first v c j
unfolding is_ownership_broken
broken_before first h v c j a l =
    rw (
      lt-ltb c (length h) l,
      lt-ltb c (length v) (omega (arith, l, a.right)),
      take-agree (c + 1) h v (AgreeTo-less (length h) (c + 1) h v (omega (arith, l)) a),
    ) refl

pub verdict-more : (first : List Joint) (h : Trace) (x : Sample) (v : Trace) → OneMore h x v
    → ownership_verdict first v ≡ or_at (is_ownership_broken first v) 32 (length h) (ownership_verdict first h)
unfolding ownership_verdict
verdict-more first h x v m =
    ap (least_broken (is_ownership_broken first v) 32) (m.size ∙ add-one (length h))
    ∙ least_more (is_ownership_broken first h) (is_ownership_broken first v) 32 (length h)
    (λ d i l. broken_before first h v d i m.agree l)
