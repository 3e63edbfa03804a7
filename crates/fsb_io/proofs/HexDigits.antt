-- The digits of a hexadecimal text, from the last to the first.
use Rattle.std.proofs.Common.{◌≡◌, ℕ, zero, suc, ◌+◌, ◌-◌, ◌/◌, ◌%◌, ◌^◌, ◌<◌, ◌≤◌, Bool, true, false, cond, eqb, List}
use Rattle.std.proofs.Common.{[], ◌∷◌, refl, sym, ap, ◌∙◌, arith, length, drop, set}
use Rattle.std.proofs.lemmas.Bool.{eq-eqb, ne_eqb}
use Rattle.std.proofs.Math.Nat.{pow-suc}
use Rattle.std.proofs.lemmas.List.{drop-set, drop_all}
use Rattle.std.specs.Fmt.{digits, digits_onto, digit_glyph}
use Rattle.fsb_io.specs.NumberText.{hexadecimal}

-- the last digits of n, at most k of them, before those that are written already
unfoldable pub hex_before : ℕ → ℕ → List ℕ → List ℕ
hex_before k n written = digits_onto k 16 false n written

hex_before-none : (n : ℕ) → hex_before 64 n [] ≡ hexadecimal n
unfolding hex_before digits
hex_before-none n = refl

hex_before-test : (k n : ℕ) (written : List ℕ) (t : Bool) → eqb (n / 16) 0 ≡ t
    → hex_before (suc k) n written ≡ cond t (digit_glyph false (n % 16) ∷ written)
    (hex_before k (n / 16) (digit_glyph false (n % 16) ∷ written))
unfolding hex_before
hex_before-test k n written t e =
    ap (λ (b : Bool). cond b (digit_glyph false (n % 16) ∷ written)
    (digits_onto k 16 false (n / 16) (digit_glyph false (n % 16) ∷ written))) e

hex_before-last : (k n : ℕ) (written : List ℕ) → 0 < k → n < 16 → hex_before k n written ≡ digit_glyph false n ∷ written
hex_before-last zero n written some small = absurd (omega arith)
hex_before-last (suc k) n written some small =
    let e : n % 16 ≡ n = omega arith in
    hex_before-test k n written true (eq-eqb (n / 16) 0 (omega arith)) ∙ ap (λ (d : ℕ). digit_glyph false d ∷ written) e

hex_before-more : (k n : ℕ) (written : List ℕ) → 0 < k → 16 ≤ n
    → hex_before k n written ≡ hex_before (k - 1) (n / 16) (digit_glyph false (n % 16) ∷ written)
hex_before-more zero n written some large = absurd (omega arith)
hex_before-more (suc k) n written some large =
    let e : k ≡ suc k - 1 = omega arith in
    hex_before-test k n written false (ne_eqb (n / 16) 0 (λ h. omega arith))
    ∙ ap (λ (j : ℕ). hex_before j (n / 16) (digit_glyph false (n % 16) ∷ written)) e

-- before the first digit is written, all of them are to come
pub hex_before-start : (n : ℕ) (ds : List ℕ) → length ds ≡ 16 → hex_before 64 n (drop 16 ds) ≡ hexadecimal n
hex_before-start n ds long = ap (hex_before 64 n) (drop_all 16 ds (omega arith)) ∙ hex_before-none n

-- one digit more is written at a place, and the digits before it are to come
pub hex_before-step : (n left place digit : ℕ) (ds : List ℕ) → place < length ds → 0 < place → 16 ≤ left
    → digit ≡ digit_glyph false (left % 16) → hex_before (49 + place) left (drop (place + 1) ds) ≡ hexadecimal n
    → hex_before (49 + (place - 1)) (left / 16) (drop (place - 1 + 1) (set ds place digit)) ≡ hexadecimal n
hex_before-step n left place digit ds within some large is before =
    let a : place - 1 + 1 ≡ place = omega arith in
    let b : 49 + (place - 1) ≡ 49 + place - 1 = omega arith in
    let c : 0 < 49 + place = omega arith in
    rw (a, b, drop-set ds place digit within, is)
    (sym (hex_before-more (49 + place) left (drop (place + 1) ds) c large) ∙ before)

-- the first digit is written at a place
pub hex_before-first : (n left place digit : ℕ) (ds : List ℕ) → place < length ds → left < 16
    → digit ≡ digit_glyph false left → hex_before (49 + place) left (drop (place + 1) ds) ≡ hexadecimal n
    → drop place (set ds place digit) ≡ hexadecimal n
hex_before-first n left place digit ds within small is before =
    let c : 0 < 49 + place = omega arith in
    rw (drop-set ds place digit within, is)
    (sym (hex_before-last (49 + place) left (drop (place + 1) ds) c small) ∙ before)

-- a number that has a digit past its last has a place before it
pub room_before : (left place : ℕ) → 16 ≤ left → left < 16 ^ (place + 1) → 0 < place
room_before left zero large fits = absurd (omega arith)
room_before left (suc place) large fits = omega arith

-- the digits that are to come fit before the one that was written
pub fits_before : (left place : ℕ) → 0 < place → left < 16 ^ (place + 1) → left / 16 < 16 ^ (place - 1 + 1)
fits_before left zero some fits = absurd (omega arith)
fits_before left (suc place) some fits =
    let a : suc place - 1 + 1 ≡ suc place = omega arith in
    let b : suc place + 1 ≡ suc (suc place) = omega arith in
    let c : left < 16 ^ (suc (suc place)) = rw b at fits in
    rw a (omega (arith, c, pow-suc 16 (suc place)))
