-- Numbers read back: the reader's sum over the digits that the writer puts.
use Rattle.std.proofs.Common.{◌≡◌, ℕ, zero, suc, ◌+◌, ◌-◌, ◌*◌, ◌/◌, ◌%◌, ◌^◌, ◌<◌, ◌≤◌, Bool, true, false, cond, eqb}
use Rattle.std.proofs.Common.{List, [], ◌∷◌, length, Ok, refl, ap, ◌∙◌, arith}
use Rattle.std.specs.Prelude.{◌&&◌, nat_lt, nat_le}
use Rattle.std.specs.List.{list_all}
use Rattle.std.specs.Fmt.{decimal, digits, digits_onto, digit_glyph}
use Rattle.std.proofs.lemmas.Bool.{le-leb, leb-true, lt-ltb, ltb-true, ltb-false, eqb-true, eqb-false}
use Rattle.std.proofs.Math.Nat.{mod-lt, pow-zero, pow-suc, div-lt_iff_lt-mul, div-eq_of_lt}
use Rattle.fsb_io.specs.NumberText.{hexadecimal}
use Rattle.fsb_script.specs.TextWords.{decimal_from, decimal_of, hex_digit, hex_from, hex_of}
use Rattle.fsb_script.specs.Statements.{bytes_of}
use Rattle.fsb_script.specs.Text.{digit_text}

-- ---- one digit

glyph_low : (d : ℕ) → d < 10 → digit_glyph false d ≡ 48 + d
glyph_low d small = rw (lt-ltb d 10 small) refl

glyph_high : (d : ℕ) → 10 ≤ d → digit_glyph false d ≡ 87 + d
glyph_high d large = by (nat_lt d 10) refl
  where
    by : (t : Bool) → nat_lt d 10 ≡ t → cond t (48 + d) (87 + d) ≡ 87 + d
    by true e = absurd (omega (arith, ltb-true d 10 e))
    by false e = refl

dec_low : (m b d : ℕ) (ds : List ℕ) → b ≡ 48 + d → d < 10 → decimal_from m (b ∷ ds) ≡ decimal_from (m * 10 + d) ds
dec_low m b d ds is small =
    let low : nat_le 48 b ≡ true = le-leb 48 b (omega arith) in
    let high : nat_le b 57 ≡ true = le-leb b 57 (omega arith) in
    let value : b - 48 ≡ d = omega arith in
    rw (low, high, value) refl

dec_digit : (m d : ℕ) (ds : List ℕ) → d < 10 → decimal_from m (digit_glyph false d ∷ ds) ≡ decimal_from (m * 10 + d) ds
dec_digit m d ds small = dec_low m (digit_glyph false d) d ds (glyph_low d small) small

hex_low : (b d : ℕ) → b ≡ 48 + d → d < 10 → hex_digit b ≡ Ok d
unfolding hex_digit
hex_low b d is small =
    let low : nat_le 48 b ≡ true = le-leb 48 b (omega arith) in
    let high : nat_le b 57 ≡ true = le-leb b 57 (omega arith) in
    let value : b - 48 ≡ d = omega arith in
    rw (low, high, value) refl

not_le : (a b : ℕ) → b < a → nat_le a b ≡ false
not_le a b h = by (nat_le a b) refl
  where
    by : (t : Bool) → nat_le a b ≡ t → t ≡ false
    by true e = absurd (omega (arith, leb-true a b e))
    by false e = refl

hex_high : (b d : ℕ) → b ≡ 87 + d → 10 ≤ d → d < 16 → hex_digit b ≡ Ok d
unfolding hex_digit
hex_high b d is large small =
    let low : nat_le 48 b ≡ true = le-leb 48 b (omega arith) in
    let high : nat_le b 57 ≡ false = not_le b 57 (omega arith) in
    let from_a : nat_le 97 b ≡ true = le-leb 97 b (omega arith) in
    let to_f : nat_le b 102 ≡ true = le-leb b 102 (omega arith) in
    let value : b - 87 ≡ d = omega arith in
    rw (low, high, from_a, to_f, value) refl

pub hex_glyph : (d : ℕ) → d < 16 → hex_digit (digit_glyph false d) ≡ Ok d
hex_glyph d small = by (nat_lt d 10) refl
  where
    by : (t : Bool) → nat_lt d 10 ≡ t → hex_digit (digit_glyph false d) ≡ Ok d
    by true e = let low : d < 10 = ltb-true d 10 e in hex_low _ d (glyph_low d low) low
    by false e = let high : 10 ≤ d = ltb-false d 10 e in hex_high _ d (glyph_high d high) high small

hex_step : (m d : ℕ) (ds : List ℕ) → d < 16 → hex_from m (digit_glyph false d ∷ ds) ≡ hex_from (m * 16 + d) ds
hex_step m d ds small = rw (hex_glyph d small) refl

-- ---- all digits

onto_step : (base k n : ℕ) (ds : List ℕ) (t : Bool) → eqb (n / base) 0 ≡ t
    → digits_onto (suc k) base false n ds ≡ cond t (digit_glyph false (n % base) ∷ ds)
    (digits_onto k base false (n / base) (digit_glyph false (n % base) ∷ ds))
onto_step base k n ds t e = ap (λ (b : Bool). cond b (digit_glyph false (n % base) ∷ ds)
    (digits_onto k base false (n / base) (digit_glyph false (n % base) ∷ ds))) e

fewer : (base d n : ℕ) → 0 < base → n < base ^ suc (suc d) → n / base < base ^ suc d
fewer base d n some below = (div-lt_iff_lt-mul some).1 (rw (pow-suc base (suc d)) at below)

small_div : (base n : ℕ) → 0 < base → n < base ^ suc zero → n / base ≡ 0
small_div base n some below =
    let one : base ^ suc zero ≡ base = rw (pow-suc base zero, pow-zero base) (omega arith) in
    let less : n < base = omega (arith, one) in
    div-eq_of_lt less

dec_onto : (k d n : ℕ) (ds : List ℕ) → d < k → n < 10 ^ suc d
    → decimal_from 0 (digits_onto k 10 false n ds) ≡ decimal_from n ds
dec_onto zero d n ds few below = absurd (omega arith)
dec_onto (suc k) d n ds few below = by (λ e small less. dec_onto k e (n / 10)
    (digit_glyph false (n % 10) ∷ ds) small less) d few below (eqb (n / 10) 0) refl
  where
    digit : n % 10 < 10
    digit = mod-lt n (omega arith)

    by : ((e : ℕ) → e < k → n / 10 < 10 ^ suc e → decimal_from 0
        (digits_onto k 10 false (n / 10) (digit_glyph false (n % 10) ∷ ds)) ≡ decimal_from (n / 10)
        (digit_glyph false (n % 10) ∷ ds))
        → (d : ℕ) → d < suc k → n < 10 ^ suc d → (t : Bool) → eqb (n / 10) 0 ≡ t
        → decimal_from 0 (digits_onto (suc k) 10 false n ds) ≡ decimal_from n ds
    by again d few below true e =
        let none : n / 10 ≡ 0 = eqb-true _ _ e in
        let whole : 0 * 10 + n % 10 ≡ n = omega arith in
        ap (decimal_from 0) (onto_step 10 k n ds true e) ∙ dec_digit 0 (n % 10) ds digit
        ∙ ap (λ m. decimal_from m ds) whole
    by again zero few below false e = absurd (eqb-false _ _ e (omega arith))
    by again (suc d) few below false e =
        let whole : n / 10 * 10 + n % 10 ≡ n = omega arith in
        let less : n / 10 < 10 ^ suc d = omega (arith, pow-suc 10 (suc d)) in
        ap (decimal_from 0) (onto_step 10 k n ds false e) ∙ again d (omega arith) less
        ∙ dec_digit (n / 10) (n % 10) ds digit ∙ ap (λ m. decimal_from m ds) whole

hex_onto : (k d n : ℕ) (ds : List ℕ) → d < k → n < 16 ^ suc d → hex_from 0 (digits_onto k 16 false n ds) ≡ hex_from n ds
hex_onto zero d n ds few below = absurd (omega arith)
hex_onto (suc k) d n ds few below = by (λ e small less. hex_onto k e (n / 16)
    (digit_glyph false (n % 16) ∷ ds) small less) d few below (eqb (n / 16) 0) refl
  where
    digit : n % 16 < 16
    digit = mod-lt n (omega arith)

    by : ((e : ℕ) → e < k → n / 16 < 16 ^ suc e → hex_from 0
        (digits_onto k 16 false (n / 16) (digit_glyph false (n % 16) ∷ ds)) ≡ hex_from (n / 16)
        (digit_glyph false (n % 16) ∷ ds))
        → (d : ℕ) → d < suc k → n < 16 ^ suc d → (t : Bool) → eqb (n / 16) 0 ≡ t
        → hex_from 0 (digits_onto (suc k) 16 false n ds) ≡ hex_from n ds
    by again d few below true e =
        let none : n / 16 ≡ 0 = eqb-true _ _ e in
        let whole : 0 * 16 + n % 16 ≡ n = omega arith in
        ap (hex_from 0) (onto_step 16 k n ds true e) ∙ hex_step 0 (n % 16) ds digit ∙ ap (λ m. hex_from m ds) whole
    by again zero few below false e = absurd (eqb-false _ _ e (omega arith))
    by again (suc d) few below false e =
        let whole : n / 16 * 16 + n % 16 ≡ n = omega arith in
        let less : n / 16 < 16 ^ suc d = omega (arith, pow-suc 16 (suc d)) in
        ap (hex_from 0) (onto_step 16 k n ds false e) ∙ again d (omega arith) less
        ∙ hex_step (n / 16) (n % 16) ds digit ∙ ap (λ m. hex_from m ds) whole

-- ---- what the digits are

-- from `0` to `f`: no blank, no line feed and no `r`
abbrev pub is_figure : ℕ → Bool
is_figure b = nat_le 48 b && nat_le b 102

pub figure : (d : ℕ) → d < 16 → is_figure (digit_glyph false d) ≡ true
figure d small = by (nat_lt d 10) refl
  where
    within : (b : ℕ) → 48 ≤ b → b ≤ 102 → is_figure b ≡ true
    within b low high = rw (le-leb 48 b low, le-leb b 102 high) refl

    by : (t : Bool) → nat_lt d 10 ≡ t → is_figure (digit_glyph false d) ≡ true
    by true e = let low : d < 10 = ltb-true d 10 e in within (digit_glyph false d) (omega (arith, glyph_low d low))
        (omega (arith, glyph_low d low))
    by false e = let high : 10 ≤ d = ltb-false d 10 e in within (digit_glyph false d)
        (omega (arith, glyph_high d high)) (omega (arith, glyph_high d high))

-- the text of a number: figures, at least one and at most this many
pub record Figures (most : ℕ) (word : List ℕ) : Type 0 where
  pub some : 1 ≤ length word
  pub few : length word ≤ most
  pub all : list_all is_figure word ≡ true

onto_figures : (base k d n : ℕ) (ds : List ℕ) → 0 < base → base ≤ 16 → d < k → n < base ^ suc d
    → list_all is_figure ds ≡ true → Figures (suc d + length ds) (digits_onto k base false n ds)
onto_figures base zero d n ds some high few below all = absurd (omega arith)
onto_figures base (suc k) d n ds some high few below all =
    by (λ e small less. onto_figures base k e (n / base)
    (digit_glyph false (n % base) ∷ ds) some high small less more) d few below (eqb (n / base) 0) refl
  where
    digit : n % base < base
    digit = mod-lt n some

    more : list_all is_figure (digit_glyph false (n % base) ∷ ds) ≡ true
    more = rw (figure (n % base) (omega (arith, digit)), all) refl

    by : ((e : ℕ) → e < k → n / base < base ^ suc e
        → Figures (suc e + length (digit_glyph false (n % base) ∷ ds))
        (digits_onto k base false (n / base) (digit_glyph false (n % base) ∷ ds)))
        → (d : ℕ) → d < suc k → n < base ^ suc d → (t : Bool) → eqb (n / base) 0 ≡ t
        → Figures (suc d + length ds) (digits_onto (suc k) base false n ds)
    by again d few below true e = rw (onto_step base k n ds true e)
        (record { some = omega arith; few = omega arith; all = more })
    by again zero few below false e = absurd (eqb-false _ _ e (small_div base n some below))
    by again (suc d) few below false e =
        let less : n / base < base ^ suc d = fewer base d n some below in
        let h : Figures (suc d + length (digit_glyph false (n % base) ∷ ds))
        (digits_onto k base false (n / base) (digit_glyph false (n % base) ∷ ds)) = again d (omega arith) less in
        rw (onto_step base k n ds false e) (record { some = h.some; few = omega (arith, h.few); all = h.all })

-- ---- the texts of numbers

pub decimal_figures : (d n : ℕ) → d < 64 → n < 10 ^ suc d → Figures (suc d) (decimal n)
unfolding digits
decimal_figures d n few below =
    let h = onto_figures 10 64 d n [] (omega arith) (omega arith) few below refl in
    record { some = h.some; few = omega (arith, h.few); all = h.all }

pub hex_figures : (d n : ℕ) → d < 64 → n < 16 ^ suc d → Figures (suc d) (hexadecimal n)
unfolding digits
hex_figures d n few below =
    let h = onto_figures 16 64 d n [] (omega arith) (omega arith) few below refl in
    record { some = h.some; few = omega (arith, h.few); all = h.all }

dec_value : (d n : ℕ) → d < 64 → n < 10 ^ suc d → decimal_from 0 (decimal n) ≡ Ok n
unfolding digits
dec_value d n few below = dec_onto 64 d n [] few below

hex_value : (d n : ℕ) → d < 64 → n < 16 ^ suc d → hex_from 0 (hexadecimal n) ≡ Ok n
unfolding digits
hex_value d n few below = hex_onto 64 d n [] few below

pub decimal_back : (n : ℕ) → n < 10 ^ 18 → decimal_of (decimal n) ≡ Ok n
unfolding decimal_of
decimal_back n below =
    let h : Figures 18 (decimal n) = decimal_figures 17 n (omega arith) below in
    rw (le-leb 1 (length (decimal n)) h.some, le-leb (length (decimal n)) 18 h.few) (dec_value 17 n (omega arith) below)

pub hex_back : (n : ℕ) → n < 16 ^ 16 → hex_of (hexadecimal n) ≡ Ok n
unfolding hex_of
hex_back n below =
    let h : Figures 16 (hexadecimal n) = hex_figures 15 n (omega arith) below in
    rw (le-leb 1 (length (hexadecimal n)) h.some, le-leb (length (hexadecimal n)) 16 h.few)
    (hex_value 15 n (omega arith) below)

pub byte_back : (n : ℕ) → n < 256 → bytes_of (digit_text (n / 16) ∷ digit_text (n % 16) ∷ []) ≡ Ok (n ∷ [])
unfolding bytes_of
byte_back n below =
    let high : n / 16 < 16 = omega arith in
    let low : n % 16 < 16 = omega arith in
    let whole : n / 16 * 16 + n % 16 ≡ n = omega arith in
    rw (hex_glyph (n / 16) high) (rw (hex_glyph (n % 16) low) (ap (λ m. Ok (m ∷ [])) whole))
