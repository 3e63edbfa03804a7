-- The lines of values, by the width of their entry, and the digits of a word one by one.
use Rattle.std.proofs.Common.{◌≡◌, ◌≢◌, ℕ, ◌+◌, ◌-◌, ◌<◌, List, [], ◌∷◌, ◌++◌, refl, append_assoc, ◌∙◌, ap, arith, zero}
use Rattle.std.proofs.Common.{suc}
use Rattle.std.proofs.lemmas.Bool.{ne_eqb}
use Rattle.std.specs.Int.{bit_at}
use Rattle.fsb_signal.specs.DumpText.{width_of, digit_of, digits_of, value_text}

-- a single line's value is its digit and code
pub value_text-single : (number value : ℕ) → width_of number ≡ 1
    → value_text number value ≡ digits_of 1 value ++ (33 + number) ∷ 10 ∷ []
unfolding value_text
value_text-single number value one = rw one refl

-- a word's value is `b`, its digits, a space and the code
pub value_text-word : (number value width : ℕ) → width_of number ≡ width → width ≢ 1
    → value_text number value ≡ (98 ∷ digits_of width value) ++ 32 ∷ (33 + number) ∷ 10 ∷ []
unfolding value_text
value_text-word number value width is many =
    rw is (rw (ne_eqb width 1 many) (append_assoc (98 ∷ digits_of width value) (32 ∷ []) ((33 + number) ∷ 10 ∷ [])))

-- what is ahead, once the digit of the highest place left was put behind xs
pub digits_of-step : (xs ys : List ℕ) (place value digit : ℕ) → 0 < place
    → digit ≡ digit_of (bit_at value (place - 1)) → xs ++ digits_of place value ≡ ys
    → (xs ++ digit ∷ []) ++ digits_of (place - 1) value ≡ ys
digits_of-step xs ys zero value digit some is ahead = absurd (omega (arith, some))
digits_of-step xs ys (suc place) value digit some is ahead =
    let less : suc place - 1 ≡ place = omega arith in
    let at : digit ≡ digit_of (bit_at value place) = is ∙ ap (λ p. digit_of (bit_at value p)) less in
    rw less (rw at (append_assoc xs (digit_of (bit_at value place) ∷ []) (digits_of place value) ∙ ahead))
