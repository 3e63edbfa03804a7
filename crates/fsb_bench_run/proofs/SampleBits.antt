-- A sample that is made of bits has each of its lines where the bit is set.
use Rattle.fsb_bench_run.proofs.Words
use Words.{ℕ, zero, suc, ◌+◌, ◌*◌, ◌/◌, ◌%◌, ◌^◌, ◌<◌, ◌≤◌, ◌≡◌, Bool, true, false, List, [], ◌∷◌, length}
use Words.{if◌then◌else◌, eqb, ◌∙◌, arith, slice_get, option_map_or, bit_and, eq-eqb, ne_eqb, mod-eq_of_lt, bits_of}
use Rattle.std.specs.Int.{bit_at}
use Rattle.std.proofs.lemmas.Nat.{pow_pos}
use Rattle.std.proofs.lemmas.Nat.Bits.{and_pow, bit_at_lowest, bit_at-suc, bit_at-zero}
use Rattle.std.proofs.Math.Pow.{pow_mono}

-- a bit as a number
abbrev pub one_of : Bool → ℕ
one_of bit = if bit then 1 else 0

-- the bit at a place of a list, and none behind its end
abbrev pub bit_in : List Bool → ℕ → Bool
bit_in bits k = option_map_or (λ b. b) (slice_get bits k) false

-- so many bits make a number below that power of two
pub bits_of-below : (bits : List Bool) → bits_of bits < 2 ^ length bits
bits_of-below [] = omega arith
bits_of-below (b ∷ bs) = grind (arith, bits_of-below bs)

lowest : (b : Bool) (y : ℕ) → (one_of b + 2 * y) % 2 ≡ one_of b
lowest b y = grind arith

above : (b : Bool) (y : ℕ) → (one_of b + 2 * y) / 2 ≡ y
above true y = omega arith
above false y = omega arith

pub bit_at-bits : (bits : List Bool) (k : ℕ) → bit_at (bits_of bits) k ≡ one_of (bit_in bits k)
bit_at-bits [] k = bit_at-zero k
bit_at-bits (b ∷ bs) zero = bit_at_lowest (one_of b + 2 * bits_of bs) ∙ lowest b (bits_of bs)
bit_at-bits (b ∷ bs) (suc k) = grind (arith, bit_at-suc, bit_at-bits bs k)

is_there : (b : Bool) (p : ℕ) → 0 < p → eqb (one_of b * p) p ≡ b
is_there true p l = eq-eqb (1 * p) p (omega arith)
is_there false p l = ne_eqb (0 * p) p (λ e. omega arith)

-- a line of such a number is there exactly where its bit is
pub line-bit : (bits : List Bool) (k : ℕ) → length bits ≤ 21
    → eqb (bit_and (bits_of bits % 2 ^ 21) (2 ^ k)) (2 ^ k) ≡ bit_in bits k
line-bit bits k few =
    let high = pow_mono few in
    grind (arith, bits_of-below, mod-eq_of_lt, and_pow, bit_at-bits, pow_pos)
