-- A timely run of profile 1 asserts no parity line.
use Rattle.std.proofs.Common.{◌≡◌, ℕ, zero, suc, ◌<◌, ◌+◌, Bool, true, false, ◌&&◌, List, [], ◌∷◌, length, slice_get}
use Rattle.std.proofs.Common.{take, refl, sym, ap, ◌∙◌, subst, arith, nat_eq, add-one, if◌then◌else◌}
use Rattle.std.specs.List.{list_all}
use Rattle.fsb_count.specs.Options.{is_some_and}
use Rattle.fsb_script.specs.Plans.{PlanView}
use Rattle.fsb_signal.specs.Parity.{has_no_parity}
use Rattle.fsb_signal.specs.declared.sample.Sample.{Sample}
use Rattle.fsb_timely.specs.ParityLines.{drives_parity, is_even_sample}
use Rattle.fsb_timely.specs.Runs.{Run, run_to}
use Rattle.fsb_timely.specs.Timely.{Timely, holds_at, holds_in}

-- each element of a list passes where the one at each place does
each-passes : {X : Type 0} (test : X → Bool) (xs : List X)
    → ((c : ℕ) → c < length xs → is_some_and (slice_get xs c) test ≡ true) → list_all test xs ≡ true
unfolding is_some_and
each-passes test [] h = refl
each-passes test (x ∷ xs) h =
    let first : test x ≡ true = h 0 (omega arith) in
    rw first (each-passes test xs (λ c l. h (suc c) (omega (arith, l))))

-- the element at the end of a first part
at-cut : {X : Type 0} (xs : List X) (c : ℕ) → slice_get (take (suc c) xs) c ≡ slice_get xs c
at-cut [] c = refl
at-cut (x ∷ xs) zero = refl
at-cut (x ∷ xs) (suc c) = at-cut xs c

pub no-parity : (r : Run) → Timely r → r.plan.profile ≡ 1 → list_all has_no_parity r.trace ≡ true
unfolding holds_at holds_in drives_parity run_to
no-parity r timely one =
    each-passes has_no_parity r.trace (λ c l.
    let due : is_some_and (slice_get (take (c + 1) r.trace) c)
    (if nat_eq r.plan.profile 2 then is_even_sample else has_no_parity) ≡ true =
    timely.parity.at c l in
    let there = subst (λ p. is_some_and (slice_get (take (c + 1) r.trace) c)
    (if nat_eq p 2 then is_even_sample else has_no_parity) ≡ true) one due in
    sym (ap (λ o. is_some_and o has_no_parity) (ap (λ n. slice_get (take n r.trace) c) (add-one c)
    ∙ at-cut r.trace c)) ∙ there)

-- the same of a plan and a trace that are the run's
pub no-parity-of : (r : Run) (p : PlanView) (w : List Sample) → Timely r → p ≡ r.plan → w ≡ r.trace → p.profile ≡ 1
    → list_all has_no_parity w ≡ true
no-parity-of r p w timely plan trace one =
    subst (λ v. list_all has_no_parity v ≡ true) (sym trace)
    (no-parity r timely (sym (ap (λ q. q.profile) plan) ∙ one))
