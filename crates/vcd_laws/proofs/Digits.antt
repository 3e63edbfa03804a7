-- The digits that are written of a number: how many they are, what they are, and the number that they give back.
use Rattle.std.proofs.Common.{◌≡◌, ℕ, zero, suc, ◌+◌, ◌-◌, ◌*◌, ◌/◌, ◌%◌, ◌^◌, ◌<◌, Bool, true, false, length, refl}
use Rattle.std.proofs.Common.{sym, ap, ◌∙◌, arith, ◌⊎◌, inl, inr}
use Rattle.std.proofs.Math.Path.{ap₂}
use Rattle.std.specs.Prelude.{◌==◌, if◌then◌else◌}
use Rattle.std.specs.List.{list_all}
use Rattle.std.specs.Int.{bit_at}
use Rattle.std.proofs.lemmas.Nat.{mod-pow-add}
use Rattle.std.proofs.lemmas.Nat.Bits.{bit_at-lt}
use Rattle.std.proofs.lemmas.Bool.{eqb-true, eqb-false}
use Rattle.std.proofs.Math.Nat.{pow-suc}
use Rattle.fsb_signal.specs.DumpText.{digit_of, digits_of}
use Rattle.vcd_grammar.specs.Digits.{is_unknown, extended}
use Rattle.vcd_grammar.specs.Levels.{is_low, bits_from}

pub length-digits_of : (width value : ℕ) → length (digits_of width value) ≡ width
length-digits_of zero value = refl
length-digits_of (suc width) value = ap suc (length-digits_of width value)

-- what holds of both digits holds of all
pub all-digits_of : (p : ℕ → Bool) → p 48 ≡ true → p 49 ≡ true → (width value : ℕ)
    → list_all p (digits_of width value) ≡ true
all-digits_of p low high zero value = refl
all-digits_of p low high (suc width) value = rw (one (bit_at value width)) (all-digits_of p low high width value)
  where
    by : (t : Bool) → p (if t then 48 else 49) ≡ true
    by true = low
    by false = high

    one : (bit : ℕ) → p (digit_of bit) ≡ true
    one bit = by (bit == 1)

-- a value of all digits stays as it is
pub extended-digits_of : (width value : ℕ) → extended width (digits_of width value) ≡ digits_of width value
unfolding extended
extended-digits_of width value =
    let none : width - length (digits_of width value) ≡ 0 = omega (arith, length-digits_of width value) in
    rw none refl

-- a single digit is one of two
pub digit : (bit : ℕ) → (digit_of bit ≡ 48) ⊎ (digit_of bit ≡ 49)
digit bit = by (bit == 1) (digit_of bit) refl
  where
    by : (t : Bool) (d : ℕ) → d ≡ (if t then 48 else 49) → (d ≡ 48) ⊎ (d ≡ 49)
    by true d e = inl e
    by false d e = inr e

-- ---- the number back

low_digit : (bit : ℕ) → bit < 2 → (if is_low (digit_of bit) then 1 else 0) ≡ bit
low_digit bit small = by (bit == 1) refl
  where
    by : (t : Bool) → (bit == 1) ≡ t → (if is_low (if t then 48 else 49) then 1 else 0) ≡ bit
    by true e = sym (eqb-true bit 1 e)
    by false e = let other : (bit ≡ 1 → ⊥) = eqb-false bit 1 e in omega arith

-- the sum of a digit and of those behind it
shifted : (n bit p rest : ℕ) → (2 * n + bit) * p + rest ≡ n * (p * 2) + (bit * p + rest)
shifted n bit p rest = omega arith

pub low-digits_of : (n width value : ℕ) → bits_from is_low n (digits_of width value) ≡ n * 2 ^ width + value % 2 ^ width
low-digits_of n zero value = omega arith
low-digits_of n (suc width) value =
    let bit = bit_at value width in
    let next : 1 + width ≡ suc width = omega arith in
    let split : value % 2 ^ suc width ≡ (value / 2 ^ width % 2) * 2 ^ width + value % 2 ^ width =
    ap (λ w. value % 2 ^ w) (sym next) ∙ mod-pow-add value 1 width in
    let double : 2 ^ suc width ≡ 2 ^ width * 2 = pow-suc 2 width in
    ap (λ b. bits_from is_low (2 * n + b) (digits_of width value)) (low_digit bit (bit_at-lt value width))
    ∙ low-digits_of (2 * n + bit) width value
    ∙ shifted n bit (2 ^ width) (value % 2 ^ width)
    ∙ sym (ap₂ (λ p s. n * p + s) double split)

not_unknown : (bit : ℕ) → is_unknown (digit_of bit) ≡ false
not_unknown bit = by (bit == 1)
  where
    by : (t : Bool) → is_unknown (if t then 48 else 49) ≡ false
    by true = refl
    by false = refl

pub unknown-digits_of : (width value : ℕ) → bits_from is_unknown 0 (digits_of width value) ≡ 0
unknown-digits_of zero value = refl
unknown-digits_of (suc width) value =
    ap (λ t. bits_from is_unknown (2 * 0 + (if t then 1 else 0)) (digits_of width value))
    (not_unknown (bit_at value width))
    ∙ unknown-digits_of width value
