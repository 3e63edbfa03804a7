-- The sizes that a cache may have are powers of two.
use Rattle.std.proofs.Common.{ℕ, zero, suc, ◌/◌, ◌%◌, ◌≡◌, ◌^◌, Bool, true, refl, ap, ◌∙◌, ⊎_elim, arith}
use Rattle.std.specs.Prelude.{◌==◌, ◌||◌, IsTrue, count_ones}
use Rattle.std.specs.Int.{is_power_of_two}
use Rattle.std.proofs.Math.Nat.{pow-suc}
use Rattle.std.proofs.lemmas.Bool.{eq-eqb, eqb-true, or_cases}
use Rattle.std.proofs.lemmas.Nat.{ones_le_self}
use Rattle.fsb_script.specs.Bounds.{is_cache}
use lib.Count.{ones_step}

-- a power of two has one digit 1
one_digit : (k : ℕ) → count_ones (2 ^ k) ≡ 1
one_digit zero = omega (arith, ones_step 1, ones_le_self 0)
one_digit (suc k) =
    let half : 2 ^ suc k / 2 ≡ 2 ^ k = omega (arith, pow-suc 2 k) in
    let even : 2 ^ suc k % 2 ≡ 0 = omega (arith, pow-suc 2 k) in
    let rest : count_ones (2 ^ suc k / 2) ≡ 1 = ap count_ones half ∙ one_digit k in
    omega (arith, ones_step (2 ^ suc k))

either : (P : Type 0) (a b : Bool) → (a ≡ true → P) → (b ≡ true → P) → (a || b) ≡ true → P
either P a b left right one = ⊎_elim left right (or_cases a b one)

power_at : (n m k : ℕ) → m ≡ 2 ^ k → (n == m) ≡ true → IsTrue (is_power_of_two n)
power_at n m k power is = eq-eqb (count_ones n) 1 (ap count_ones (eqb-true n m is ∙ power) ∙ one_digit k)

pub cache_power : (n : ℕ) → is_cache n ≡ true → IsTrue (is_power_of_two n)
cache_power n =
    let P = IsTrue (is_power_of_two n) in
    either P _ _
    (either P _ _ (either P _ _ (power_at n 1 0 refl) (either P _ _ (power_at n 2 1 refl) (power_at n 4 2 refl)))
    (either P _ _ (power_at n 8 3 refl) (either P _ _ (power_at n 16 4 refl) (power_at n 32 5 refl))))
    (either P _ _ (either P _ _ (power_at n 64 6 refl) (either P _ _ (power_at n 128 7 refl) (power_at n 256 8 refl)))
    (either P _ _ (power_at n 512 9 refl) (power_at n 1024 10 refl)))
