-- The numbers that the digits of a value give back: what is asserted, and what is unknown.
use Rattle.std.proofs.Common.{◌≡◌, ℕ, zero, suc, ◌+◌, ◌*◌, ◌<◌, ◌≤◌, Bool, true, false, ◌∷◌, refl, sym, ap, ◌∙◌}
use Rattle.std.proofs.Common.{arith, ◌⊎◌, inl, inr}
use Rattle.std.specs.Prelude.{◌==◌, if◌then◌else◌, min, replicate}
use Rattle.std.specs.Int.{bit_at}
use Rattle.std.specs.Int.RustNames.{bit_and}
use Rattle.std.proofs.lemmas.Nat.Bits.{bit_at_and, bit_at-zero}
use Rattle.std.proofs.lemmas.Bool.{eqb-true}
use Rattle.fsb_signal.specs.DumpText.{digit_of, digits_of}
use Rattle.vcd_grammar.specs.Digits.{is_unknown}
use Rattle.vcd_grammar.specs.Levels.{is_low, bits_from}
use Rattle.scope_write.specs.Text.{shown_digit, shown_digits}

-- a bit
abbrev one_if : Bool → ℕ
one_if t = if t then 1 else 0

-- no bit below a width is in both numbers
abbrev pub AreApart : ℕ → ℕ → ℕ → Type 0
AreApart width a u = (i : ℕ) → i < width → min (bit_at a i) (bit_at u i) ≡ 0

low_digit : (a u : ℕ) → min a u ≡ 0 → is_low (shown_digit a u) ≡ is_low (digit_of a)
low_digit a u apart = by (a == 1) (u == 1) refl refl
  where
    by : (s t : Bool) → (a == 1) ≡ s → (u == 1) ≡ t
        → is_low (if t then 120 else (if s then 48 else 49)) ≡ is_low (if s then 48 else 49)
    by true true e f =
        let one : a ≡ 1 = eqb-true a 1 e in let too : u ≡ 1 = eqb-true u 1 f in absurd (omega arith)
    by true false e f = refl
    by false true e f = refl
    by false false e f = refl

-- the asserted bits are as they would be if nothing were unknown
pub low-shown_digits : (n width a u : ℕ) → AreApart width a u
    → bits_from is_low n (shown_digits width a u) ≡ bits_from is_low n (digits_of width a)
low-shown_digits n zero a u apart = refl
low-shown_digits n (suc width) a u apart =
    ap (λ t. bits_from is_low (2 * n + one_if t) (shown_digits width a u))
    (low_digit (bit_at a width) (bit_at u width) (apart width (omega arith)))
    ∙ low-shown_digits (2 * n + one_if (is_low (digit_of (bit_at a width)))) width a u
    (λ i h. apart i (omega (arith, h)))

unknown_digit : (a u : ℕ) → is_unknown (shown_digit a u) ≡ is_low (digit_of u)
unknown_digit a u = by (a == 1) (u == 1)
  where
    by : (s t : Bool) → is_unknown (if t then 120 else (if s then 48 else 49)) ≡ is_low (if t then 48 else 49)
    by true true = refl
    by true false = refl
    by false true = refl
    by false false = refl

-- the unknown bits are as those of that number would be asserted
pub unknown-shown_digits : (n width a u : ℕ)
    → bits_from is_unknown n (shown_digits width a u) ≡ bits_from is_low n (digits_of width u)
unknown-shown_digits n zero a u = refl
unknown-shown_digits n (suc width) a u =
    ap (λ t. bits_from is_unknown (2 * n + one_if t) (shown_digits width a u))
    (unknown_digit (bit_at a width) (bit_at u width))
    ∙ unknown-shown_digits (2 * n + one_if (is_low (digit_of (bit_at u width)))) width a u

-- where nothing is asserted or unknown, each digit is 1
pub idle-shown_digits : (width : ℕ) → shown_digits width 0 0 ≡ replicate width 49
idle-shown_digits zero = refl
idle-shown_digits (suc width) =
    rw (bit_at-zero width) (ap (λ ds. 49 ∷ ds) (idle-shown_digits width))

-- ---- which lines are apart

-- the lines of a mask, as a bit
abbrev pub bit_in : ℕ → ℕ → ℕ
bit_in x mask = if bit_and x mask == mask then 1 else 0

-- at most one of two is a bit, and the other none
pub record IsOne (a u : ℕ) : Type 0 where
  pub asserted : a ≤ 1
  pub unknown : u ≤ 1
  pub either : (a ≡ 0) ⊎ (u ≡ 0)

has_bit : (x mask i : ℕ) → bit_at mask i ≡ 1 → bit_and x mask ≡ mask → 1 ≤ bit_at x i
has_bit x mask i one is =
    let both : min (bit_at x i) (bit_at mask i) ≡ 1 = sym (bit_at_and x mask i) ∙ ap (λ m. bit_at m i) is ∙ one in
    omega (arith, both)

pub one_of : (x y mask i : ℕ) → bit_and x y ≡ 0 → bit_at mask i ≡ 1 → IsOne (bit_in x mask) (bit_in y mask)
one_of x y mask i apart one = by (bit_and x mask == mask) (bit_and y mask == mask) refl refl
  where
    by : (s t : Bool) → (bit_and x mask == mask) ≡ s → (bit_and y mask == mask) ≡ t → IsOne (one_if s) (one_if t)
    by true true e f =
        let a : 1 ≤ bit_at x i = has_bit x mask i one (eqb-true _ _ e) in
        let b : 1 ≤ bit_at y i = has_bit y mask i one (eqb-true _ _ f) in
        let none : min (bit_at x i) (bit_at y i) ≡ 0 =
        sym (bit_at_and x y i) ∙ ap (λ n. bit_at n i) apart ∙ bit_at-zero i in
        absurd (omega arith)
    by true false e f = record { asserted = omega arith; unknown = omega arith; either = inr refl }
    by false t e f = by_second t
      where
        by_second : (t : Bool) → IsOne 0 (one_if t)
        by_second true = record { asserted = omega arith; unknown = omega arith; either = inl refl }
        by_second false = record { asserted = omega arith; unknown = omega arith; either = inl refl }

pub apart-one : (a u : ℕ) → IsOne a u → AreApart 1 a u
apart-one a u h zero k = by h.either
  where
    by : (a ≡ 0) ⊎ (u ≡ 0) → min (bit_at a 0) (bit_at u 0) ≡ 0
    by (inl e) = let z : bit_at a 0 ≡ 0 = ap (λ n. bit_at n 0) e ∙ bit_at-zero 0 in omega (arith, z)
    by (inr e) = let z : bit_at u 0 ≡ 0 = ap (λ n. bit_at n 0) e ∙ bit_at-zero 0 in omega (arith, z)
apart-one a u h (suc i) k = absurd (omega (arith, k))

-- of two bits side by side
bit-low : (a b : ℕ) → a ≤ 1 → b ≤ 1 → bit_at (2 * a + b) 0 ≡ b
bit-low a b h k = omega arith

bit-high : (a b : ℕ) → a ≤ 1 → b ≤ 1 → bit_at (2 * a + b) 1 ≡ a
bit-high a b h k = omega arith

none_both : (a u : ℕ) → IsOne a u → min a u ≡ 0
none_both a u h = by h.either
  where
    by : (a ≡ 0) ⊎ (u ≡ 0) → min a u ≡ 0
    by (inl e) = omega arith
    by (inr e) = omega arith

pub apart-two : (a b u v : ℕ) → IsOne a u → IsOne b v → AreApart 2 (2 * a + b) (2 * u + v)
apart-two a b u v h k zero l =
    rw (bit-low a b h.asserted k.asserted) (rw (bit-low u v h.unknown k.unknown) (none_both b v k))
apart-two a b u v h k (suc zero) l =
    rw (bit-high a b h.asserted k.asserted) (rw (bit-high u v h.unknown k.unknown) (none_both a u h))
apart-two a b u v h k (suc (suc i)) l = absurd (omega (arith, l))

-- and of three
bit-first : (a b c : ℕ) → a ≤ 1 → b ≤ 1 → c ≤ 1 → bit_at (4 * a + 2 * b + c) 0 ≡ c
bit-first a b c h k l = omega arith

bit-second : (a b c : ℕ) → a ≤ 1 → b ≤ 1 → c ≤ 1 → bit_at (4 * a + 2 * b + c) 1 ≡ b
bit-second a b c h k l = omega arith

bit-third : (a b c : ℕ) → a ≤ 1 → b ≤ 1 → c ≤ 1 → bit_at (4 * a + 2 * b + c) 2 ≡ a
bit-third a b c h k l = omega arith

pub apart-three : (a b c u v w : ℕ) → IsOne a u → IsOne b v → IsOne c w
    → AreApart 3 (4 * a + 2 * b + c) (4 * u + 2 * v + w)
apart-three a b c u v w h k l zero m =
    rw (bit-first a b c h.asserted k.asserted l.asserted)
    (rw (bit-first u v w h.unknown k.unknown l.unknown) (none_both c w l))
apart-three a b c u v w h k l (suc zero) m =
    rw (bit-second a b c h.asserted k.asserted l.asserted)
    (rw (bit-second u v w h.unknown k.unknown l.unknown) (none_both b v k))
apart-three a b c u v w h k l (suc (suc zero)) m =
    rw (bit-third a b c h.asserted k.asserted l.asserted)
    (rw (bit-third u v w h.unknown k.unknown l.unknown) (none_both a u h))
apart-three a b c u v w h k l (suc (suc (suc i))) m = absurd (omega (arith, m))

-- of a word
pub apart-word : (width a u : ℕ) → bit_and a u ≡ 0 → AreApart width a u
apart-word width a u apart i h = sym (bit_at_and a u i) ∙ ap (λ n. bit_at n i) apart ∙ bit_at-zero i
