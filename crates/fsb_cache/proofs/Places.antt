-- A power of two, and the last digits of a number.
use Rattle.std.proofs.Common.{ℕ, zero, suc, ◌-◌, ◌*◌, ◌/◌, ◌%◌, ◌^◌, ◌<◌, ◌≤◌, ◌≡◌, bit_and, ap, ◌∙◌, ⊎_elim, arith}
use Rattle.std.proofs.Math.Nat.{pow-suc}
use Rattle.std.proofs.lemmas.Bool.{cases_eq, eq-eqb}
use Rattle.std.proofs.lemmas.Bool.Decides.{nat_tests}
use Rattle.std.proofs.lemmas.Nat.{and_mask, ones_le_self, zero_from_ones}
use Rattle.std.specs.Prelude.{count_ones, IsTrue, ◌↔◌}
use Rattle.std.specs.Int.{is_power_of_two}
use lib.Count.{ones_step}

-- twice a power of two
doubled : (k n half : ℕ) → n ≡ 2 * half → half ≡ 2 ^ k → n ≡ 2 ^ suc k
doubled k n half twice power = omega (arith, pow-suc 2 k)

-- a number with one digit 1 is a power of two
one_digit : (d n : ℕ) → n ≤ d → count_ones n ≡ 1 → (k : ℕ) × (n ≡ 2 ^ k)
one_digit zero n below one =
    absurd (omega (arith, ones_le_self n))
one_digit (suc d) n below one =
    ⊎_elim
    (λ (even : n % 2 ≡ 0).
    let half = one_digit d (n / 2) (omega arith) (omega (arith, ones_step n)) in
    (suc half.0, doubled half.0 n (n / 2) (omega arith) half.1))
    (λ (odd : n % 2 ≡ 0 → ⊥).
    let rest : n / 2 ≡ 0 = zero_from_ones (n / 2) (omega (arith, ones_step n)) in (0, omega arith))
    (cases_eq (n % 2) 0)

-- the remainder by a power of two are the digits below it
pub and_is_mod : (line lines : ℕ) → IsTrue (is_power_of_two lines) → bit_and line (lines - 1) ≡ line % lines
and_is_mod line lines power =
    let k : (k : ℕ) × (lines ≡ 2 ^ k) = one_digit lines lines (omega arith) (grind (arith, nat_tests)) in
    rw k.1 (and_mask line k.0)

-- and is not 0
pub power_is_positive : (lines : ℕ) → IsTrue (is_power_of_two lines) → 0 < lines
power_is_positive lines power =
    let one : count_ones lines ≡ 1 = grind (arith, nat_tests) in omega (arith, ones_le_self lines)

-- a power of two has one digit 1
count_ones-power : (k : ℕ) → count_ones (2 ^ k) ≡ 1
count_ones-power zero = omega (arith, ones_step 1, ones_le_self 0)
count_ones-power (suc k) =
    let half : 2 ^ suc k / 2 ≡ 2 ^ k = omega (arith, pow-suc 2 k) in
    let even : 2 ^ suc k % 2 ≡ 0 = omega (arith, pow-suc 2 k) in
    let rest : count_ones (2 ^ suc k / 2) ≡ 1 = ap count_ones half ∙ count_ones-power k in
    omega (arith, ones_step (2 ^ suc k))

pub sizes : (lines : ℕ) → IsTrue (is_power_of_two lines) ↔ ((k : ℕ) × (lines ≡ 2 ^ k))
sizes lines = (
  λ power. one_digit lines lines (omega arith) (grind (arith, nat_tests)),
  λ k. eq-eqb (count_ones lines) 1 (ap count_ones k.1 ∙ count_ones-power k.0),
)
