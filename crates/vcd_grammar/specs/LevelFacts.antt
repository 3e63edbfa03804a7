-- The numbers that a sample takes have no bit too many, and none that is asserted and unknown.
use Rattle.std.proofs.Common.{◌≡◌, ℕ, ◌+◌, ◌%◌, ◌^◌, ◌<◌, min, arith, ◌∙◌, ap, sym}
use Rattle.std.specs.Int.{bit_at}
use Rattle.std.specs.Int.RustNames.{bit_and, bit_xor}
use Rattle.std.proofs.lemmas.Nat.{xor_lt, and_le_l}
use Rattle.std.proofs.lemmas.Nat.Bits.{bit_at_and, bit_at_xor, bit_at-lt, bit_at-zero, same_from_bits}
use Rattle.vcd_grammar.specs.Levels.{bits_without, control_of}

-- one bit of two: what is left of a without u is not in u
no_bit : (a u : ℕ) → a < 2 → u < 2 → min ((a + min a u) % 2) u ≡ 0
no_bit a u h k = omega arith

-- nothing is left that is among the others
pub without-apart : (a u : ℕ) → bit_and (bits_without a u) u ≡ 0
unfolding bits_without
without-apart a u = same_from_bits _ 0 (λ i.
    bit_at_and (bit_xor a (bit_and a u)) u i
    ∙ ap (λ n. min n (bit_at u i)) (bit_at_xor a (bit_and a u) i ∙ ap (λ n. (bit_at a i + n) % 2) (bit_at_and a u i))
    ∙ no_bit (bit_at a i) (bit_at u i) (bit_at-lt a i) (bit_at-lt u i)
    ∙ sym (bit_at-zero i))

-- what is left has no more bits
pub without-lt : (k a u : ℕ) → a < 2 ^ k → bits_without a u < 2 ^ k
unfolding bits_without
without-lt k a u h = xor_lt k a (bit_and a u) h (omega (arith, and_le_l a u, h))

-- the control lines are 21
pub control_of-lt : (bit : ℕ → ℕ) → control_of bit < 2 ^ 21
unfolding control_of
control_of-lt bit = omega arith
