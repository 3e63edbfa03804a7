-- The first number whose ID is free.
use Rattle.std.proofs.Common.{ℕ, zero, suc, ◌+◌, ◌*◌, ◌<◌, ◌≡◌, Bool, true, false, not, Some, None, length, refl}
use Rattle.std.proofs.Common.{⊎_elim, arith}
use Rattle.std.proofs.lemmas.Bool.{cases_eq}
use Rattle.fsb_count.specs.Clocks.{first_where}
use Rattle.fsb_timely.specs.Wants.{id_of}
use Rattle.fsb_agent_view.specs.AgentViews.{AgentView}
use Rattle.fsb_agent_view.specs.Wanting.{free_id_by, is_id_used_by}

-- one more number that does not pass
pub first_where-next : (test : ℕ → Bool) (n : ℕ) → first_where test n ≡ None → test n ≡ false
    → first_where test (n + 1) ≡ None
unfolding first_where
first_where-next test n none off = let more : n + 1 ≡ suc n = omega arith in rw (more, none, off) refl

-- the first that passes stays the first
pub first_where-stays : (test : ℕ → Bool) (n m : ℕ) → first_where test n ≡ None → test n ≡ true → n < m
    → first_where test m ≡ Some n
unfolding first_where
first_where-stays test n zero none on within = absurd (omega arith)
first_where-stays test n (suc m) none on within =
    ⊎_elim
    (λ (same : n ≡ m). let none_m : first_where test m ≡ None = rw (← same) none in rw (none_m, ← same, on) refl)
    (λ (apart : n ≡ m → ⊥). rw (first_where-stays test n m none on (omega arith)) refl)
    (cases_eq n m)

-- the ID of that number
pub free_id-found : (v : AgentView) (n first : ℕ) → first ≡ v.number * 16
    → first_where (λ n. not (is_id_used_by v (id_of v.number n))) n ≡ None → is_id_used_by v (first + n) ≡ false
    → n < length v.outs + 1 → first + n ≡ free_id_by v
unfolding id_of
free_id-found v n first is none free within =
    let on : not (is_id_used_by v (id_of v.number n)) ≡ true = rw (← is, free) refl in
    rw (first_where-stays (λ n. not (is_id_used_by v (id_of v.number n))) n (length v.outs + 1) none on within, is) refl

pub free_id-next : (v : AgentView) (n first : ℕ) → first ≡ v.number * 16
    → first_where (λ n. not (is_id_used_by v (id_of v.number n))) n ≡ None → is_id_used_by v (first + n) ≡ true
    → first_where (λ n. not (is_id_used_by v (id_of v.number n))) (n + 1) ≡ None
unfolding id_of
free_id-next v n first is none used =
    first_where-next (λ n. not (is_id_used_by v (id_of v.number n))) n none (rw (← is, used) refl)

pub free_id-none : (v : AgentView) (n : ℕ)
    → first_where (λ n. not (is_id_used_by v (id_of v.number n))) n ≡ None → n ≡ length v.outs + 1 → 0 ≡ free_id_by v
free_id-none v n none is = let all : first_where (λ n. not (is_id_used_by v (id_of v.number n)))
    (length v.outs + 1) ≡ None = rw (← is) none in rw all refl
