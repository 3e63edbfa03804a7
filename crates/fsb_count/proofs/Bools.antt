-- Tests and conditionals.
use Rattle.std.proofs.Common.{ℕ, ◌≤◌, ◌≡◌, Bool, true, false, cond, nat_eq, sym, ◌∙◌, inl, inr, arith, ◌+◌, ◌||◌}
use Rattle.std.proofs.Common.{nat_lt}
use Rattle.std.proofs.lemmas.Bool.{cases_eq, eq-eqb, ne_eqb}
use Rattle.std.proofs.lemmas.Bool.Decides.{nat_tests}

-- the sides of a comparison may be turned
pub nat_eq-sym : (a b : ℕ) → nat_eq a b ≡ nat_eq b a
nat_eq-sym a b = elim (cases_eq a b) [
  | inl e ↦ eq-eqb a b e ∙ sym (eq-eqb b a (sym e))
  | inr n ↦ ne_eqb a b n
      ∙ sym (ne_eqb b a (λ e. n (sym e)))
]

-- below the next number is below, or at
pub nat_lt-more : (n c : ℕ) → nat_lt n (c + 1) ≡ (nat_lt n c || nat_eq n c)
nat_lt-more n c = grind (arith, nat_tests)

-- one test counts once at most
pub cond-most : (b : Bool) → cond b 1 0 ≤ 1
cond-most true = omega arith
cond-most false = omega arith
