-- The control lines of a sample, where an entry of the table has no bit among those that make them.
use Rattle.std.proofs.Common.{◌≡◌, ℕ, ◌*◌, ◌<◌, ◌^◌, arith, ap, refl, ◌∙◌}
use Rattle.std.specs.Prelude.{◌==◌, if◌then◌else◌}
use Rattle.std.specs.Int.{bit_at}
use Rattle.std.specs.Int.RustNames.{bit_and}
use Rattle.std.proofs.lemmas.Bool.{ne_eqb}
use Rattle.std.proofs.lemmas.Nat.Bits.{and_pow, bit_at_and, bit_at_xor}
use Rattle.vcd_grammar.specs.Levels.{control_of, bits_without}
use Rattle.scope_write.proofs.Digits.{bit_in}

-- what is left of bits has no bit that they have not
pub without-zero : (a u i : ℕ) → bit_at a i ≡ 0 → bit_at (bits_without a u) i ≡ 0
unfolding bits_without
without-zero a u i h =
    let both = bit_at_and a u i in bit_at_xor a (bit_and a u) i ∙ omega (arith, h, both)

-- a line of a set without its bit
pub in-zero : (x i mask : ℕ) → mask ≡ 2 ^ i → 0 < mask → bit_at x i ≡ 0 → bit_in x mask ≡ 0
in-zero x i mask is some h =
    ap (λ n. if n == mask then 1 else 0)
    (ap (bit_and x) is ∙ and_pow x i ∙ ap (λ n. n * 2 ^ i) h)
    ∙ rw (ne_eqb (0 * 2 ^ i) mask (λ e. omega (arith, some, e))) refl

-- ---- the bits that an entry of the table gives the control lines

pub control-1 : (f : ℕ → ℕ) → f 2 ≡ 0 → bit_at (control_of f) 1 ≡ 0
unfolding control_of
control-1 f h = omega (arith, h)

pub control-2 : (f : ℕ → ℕ) → f 3 ≡ 0 → bit_at (control_of f) 2 ≡ 0
unfolding control_of
control-2 f h = omega (arith, h)

pub control-3 : (f : ℕ → ℕ) → f 4 ≡ 0 → bit_at (control_of f) 3 ≡ 0
unfolding control_of
control-3 f h = omega (arith, h)

pub control-4 : (f : ℕ → ℕ) → f 5 ≡ 0 → bit_at (control_of f) 4 ≡ 0
unfolding control_of
control-4 f h = omega (arith, h)

pub control-5 : (f : ℕ → ℕ) → f 6 ≡ 0 → bit_at (control_of f) 5 ≡ 0
unfolding control_of
control-5 f h = omega (arith, h)

pub control-6 : (f : ℕ → ℕ) → f 7 ≡ 0 → bit_at (control_of f) 6 ≡ 0
unfolding control_of
control-6 f h = omega (arith, h)

pub control-8 : (f : ℕ → ℕ) → f 11 ≡ 0 → bit_at (control_of f) 8 ≡ 0
unfolding control_of
control-8 f h = omega (arith, h)

pub control-11 : (f : ℕ → ℕ) → f 14 ≡ 0 → bit_at (control_of f) 11 ≡ 0
unfolding control_of
control-11 f h = omega (arith, h)

pub control-18 : (f : ℕ → ℕ) → f 20 ≡ 0 → bit_at (control_of f) 18 ≡ 0
unfolding control_of
control-18 f h = omega (arith, h)

pub control-19 : (f : ℕ → ℕ) → f 20 ≡ 0 → bit_at (control_of f) 19 ≡ 0
unfolding control_of
control-19 f h = omega (arith, h)

pub control-20 : (f : ℕ → ℕ) → f 21 ≡ 0 → bit_at (control_of f) 20 ≡ 0
unfolding control_of
control-20 f h = omega (arith, h)
