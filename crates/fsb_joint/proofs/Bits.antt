-- Bits of masks.
use Rattle.std.proofs.Common.{ℕ, ◌*◌, ◌^◌, ◌%◌, ◌<◌, ◌≡◌, true, false, ◌||◌, nat_eq, refl}
use Rattle.std.proofs.Common.{arith, inl, inr, w32, max}
use Rattle.std.specs.Int.{bit_at}
use Rattle.std.specs.Int.RustNames.{bit_or}
use Rattle.std.proofs.lemmas.Nat.Bits.{bit_at-lt, bit_at-zero, bit_at_or, bit_at_set_other, bit_at_set_same}
use Rattle.std.proofs.lemmas.Bool.{cases_eq}
use Rattle.std.proofs.lemmas.Bool.Decides.{nat_tests}
use Rattle.fsb_joint.specs.Sets.{has_bit}

pub has_bit-zero : (n : ℕ) → has_bit 0 n ≡ false
unfolding has_bit
has_bit-zero n = rw (bit_at-zero n) refl

either_bit : (a b : ℕ) → a < 2 → b < 2 → nat_eq (max a b) 1 ≡ (nat_eq a 1 || nat_eq b 1)
either_bit a b la lb = grind (arith, nat_tests)

pub has_bit-or : (a b n : ℕ) → has_bit (bit_or a b) n ≡ (has_bit a n || has_bit b n)
unfolding has_bit
has_bit-or a b n = rw (bit_at_or a b n) (either_bit (bit_at a n) (bit_at b n) (bit_at-lt a n) (bit_at-lt b n))

set_same : (mask k : ℕ) → k < 24 → has_bit (bit_or mask (1 * 2 ^ k % 2 ^ 32)) k ≡ true
unfolding has_bit
set_same mask k l = rw (bit_at_set_same w32 mask k (omega (arith, l))) refl

-- a bit that is set
pub has_bit-set : (mask k n : ℕ) → k < 24 → has_bit (bit_or mask (1 * 2 ^ k % 2 ^ 32)) n ≡ (has_bit mask n || nat_eq n k)
unfolding has_bit
has_bit-set mask k n l =
    elim (cases_eq n k) [
      | inl e ↦ rw e (grind (arith, nat_tests, set_same mask k l))
      | inr o ↦ rw (bit_at_set_other w32 mask k (omega (arith, l)) n o) (grind (arith, nat_tests))
    ]
