-- A number that is printed in front of what is no digit is known from the text, and so is what comes behind it.
use Rattle.std.proofs.Common.{◌≡◌, ◌++◌, ◌∙◌, ◌^◌, ◌≤◌, ◌<◌, ℕ, List, [], ◌∷◌, ap, arith, false, length}
use Rattle.std.proofs.Common.{◌/◌, ◌%◌, Bool, cond, refl, subst, suc, sym, true, zero}
use Rattle.std.specs.Char.{digit_value}
use Rattle.std.specs.Prelude.{◌==◌}
use Rattle.std.specs.Fmt.{decimal, digit_glyph, digits, digits_onto}
use Rattle.std.specs.Str.Parse.{AllDigits, digits_value}
use Rattle.std.proofs.Math.Nat.{div-eq_of_lt, mod-eq_of_lt, mod-lt}
use Rattle.std.proofs.lemmas.Fmt.{digits_is_IsNumeral}
use Rattle.std.proofs.DigitsParse.{digits_onto-nil, digits_onto_last}
use Rattle.fsb_io.specs.NumberText.{hexadecimal}

above : (a b : ℕ) → a < b → b ≤ a → ⊥
above a b less more = omega arith

-- two runs of digits, each in front of what is no digit
digits-split : (radix : ℕ) (xs ys : List ℕ) (c : ℕ) (s : List ℕ) (d : ℕ) (t : List ℕ) → AllDigits radix xs
    → AllDigits radix ys → radix ≤ digit_value c → radix ≤ digit_value d → xs ++ c ∷ s ≡ ys ++ d ∷ t
    → (xs ≡ ys) × (c ∷ s ≡ d ∷ t)
digits-split radix [] [] c s d t p q stop_c stop_d e = (refl, e)
digits-split radix [] (y ∷ ys) c s d t p q stop_c stop_d e =
    let same : c ≡ y = cc in
    absurd (above (digit_value y) radix q.0 (subst (λ (k : ℕ). radix ≤ digit_value k) same stop_c))
digits-split radix (x ∷ xs) [] c s d t p q stop_c stop_d e =
    let same : d ≡ x = cc in
    absurd (above (digit_value x) radix p.0 (subst (λ (k : ℕ). radix ≤ digit_value k) same stop_d))
digits-split radix (x ∷ xs) (y ∷ ys) c s d t p q stop_c stop_d e =
    let head : x ≡ y = cc in
    let tail : xs ++ c ∷ s ≡ ys ++ d ∷ t = cc in
    let rest = digits-split radix xs ys c s d t p.1 q.1 stop_c stop_d tail in
    ((λ i. head i ∷ rest.0 i), rest.1)

-- the text of a number has digits alone
one-digit : (base d : ℕ) → 2 ≤ base → base ≤ 16 → base ≤ base ^ 64 → d < base
    → digit_value (digit_glyph false d) < base
one-digit base d low high wide small =
    let none : d / base ≡ 0 = div-eq_of_lt small in
    let same : d % base ≡ d = mod-eq_of_lt small in
    let one : digits base false d ≡ digit_glyph false d ∷ [] =
    sym (digits_onto-nil base false d) ∙ digits_onto_last base false d [] 64 (omega arith) none
    ∙ ap (λ (e : ℕ). digit_glyph false e ∷ []) same in
    let few : d < base ^ 64 = omega arith in
    let is_numeral = digits_is_IsNumeral base false low high d few in
    (subst (AllDigits base) one is_numeral.0.1).0

digits-all : (base : ℕ) → 2 ≤ base → base ≤ 16 → base ≤ base ^ 64 → (k n : ℕ) (acc : List ℕ) → AllDigits base acc
    → AllDigits base (digits_onto k base false n acc)
digits-all base low high wide zero n acc all = all
digits-all base low high wide (suc k) n acc all =
    either (n / base == 0) _ _ more (digits-all base low high wide k (n / base) _ more)
  where
    more : AllDigits base (digit_glyph false (n % base) ∷ acc)
    more = (one-digit base (n % base) low high wide (mod-lt n (omega arith)), all)

    either : (b : Bool) (xs ys : List ℕ) → AllDigits base xs → AllDigits base ys → AllDigits base (cond b xs ys)
    either true xs ys p q = p
    either false xs ys p q = q

number-split : (base : ℕ) → 2 ≤ base → base ≤ 16 → base ≤ base ^ 64 → (m n : ℕ) (c : ℕ) (s : List ℕ) (d : ℕ) (t : List ℕ)
    → base ≤ digit_value c → base ≤ digit_value d → digits base false m ++ c ∷ s ≡ digits base false n ++ d ∷ t
    → (digits base false m ≡ digits base false n) × (c ∷ s ≡ d ∷ t)
number-split base low high wide m n c s d t stop_c stop_d e =
    digits-split base (digits base false m) (digits base false n) c s d t (all m) (all n) stop_c stop_d e
  where
    all : (k : ℕ) → AllDigits base (digits base false k)
    all k = subst (AllDigits base) (digits_onto-nil base false k) (digits-all base low high wide 64 k [] tt)

-- a decimal in front of a blank
pub decimal-split : (m n : ℕ) (s t : List ℕ) → decimal m ++ 32 ∷ s ≡ decimal n ++ 32 ∷ t
    → (decimal m ≡ decimal n) × (s ≡ t)
decimal-split m n s t e =
    let stop : 10 ≤ digit_value 32 = omega arith in
    let parts = number-split 10 (omega arith) (omega arith) (omega arith) m n 32 s 32 t stop stop e in
    let same = parts.1 in
    (parts.0, (cc))

-- a hexadecimal in front of a blank, or of a line feed
hex-split : (c : ℕ) → 16 ≤ digit_value c → (m n : ℕ) (s t : List ℕ)
    → hexadecimal m ++ c ∷ s ≡ hexadecimal n ++ c ∷ t → (hexadecimal m ≡ hexadecimal n) × (s ≡ t)
hex-split c stop m n s t e =
    let parts = number-split 16 (omega arith) (omega arith) (omega arith) m n c s c t stop stop e in
    let same = parts.1 in
    (parts.0, (cc))

pub hex_blank-split : (m n : ℕ) (s t : List ℕ) → hexadecimal m ++ 32 ∷ s ≡ hexadecimal n ++ 32 ∷ t
    → (hexadecimal m ≡ hexadecimal n) × (s ≡ t)
hex_blank-split = hex-split 32 (omega arith)

pub hex_line-split : (m n : ℕ) (s t : List ℕ) → hexadecimal m ++ 10 ∷ s ≡ hexadecimal n ++ 10 ∷ t
    → (hexadecimal m ≡ hexadecimal n) × (s ≡ t)
hex_line-split = hex-split 10 (omega arith)

-- a hexadecimal of at most 64 bits is known from its text
pub hexadecimal_injective : (m n : ℕ) → m < 2 ^ 64 → n < 2 ^ 64 → hexadecimal m ≡ hexadecimal n → m ≡ n
hexadecimal_injective m n p q e =
    let of_m = digits_is_IsNumeral 16 false (omega arith) (omega arith) m (omega arith) in
    let of_n = digits_is_IsNumeral 16 false (omega arith) (omega arith) n (omega arith) in
    sym of_m.1 ∙ ap (digits_value 16) e ∙ of_n.1

-- no decimal begins with an `e`
pub decimal-no_e : (n : ℕ) (s r : List ℕ) → n < 2 ^ 64 → 101 ∷ s ≡ decimal n ++ r → ⊥
decimal-no_e n s r p e =
    let of_n = digits_is_IsNumeral 10 false (omega arith) (omega arith) n (omega arith) in
    first (decimal n) of_n.0.0 of_n.0.1 e
  where
    first : (ds : List ℕ) → 0 < length ds → AllDigits 10 ds → 101 ∷ s ≡ ds ++ r → ⊥
    first [] some all same = omega arith
    first (d ∷ ds) some all same =
        let head : 101 ≡ d = cc in
        let stop : 10 ≤ digit_value 101 = omega arith in
        above (digit_value d) 10 all.0 (subst (λ (k : ℕ). 10 ≤ digit_value k) head stop)
