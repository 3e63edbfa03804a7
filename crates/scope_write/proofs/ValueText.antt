-- The lines of values, by the width of their entry, and the digits of a word one by one.
use Rattle.std.proofs.Common.{◌≡◌, ◌≢◌, ℕ, ◌+◌, ◌-◌, ◌<◌, List, [], ◌∷◌, ◌++◌, refl, append_assoc, ◌∙◌, ap, arith, zero}
use Rattle.std.proofs.Common.{suc}
use Rattle.std.proofs.lemmas.Bool.{ne_eqb}
use Rattle.std.specs.Int.{bit_at}
use Rattle.fsb_signal.specs.DumpText.{width_of}
use Rattle.scope_write.specs.Text.{shown_digit, shown_digits, shown_text}

-- a single line's value is its digit and code
pub shown_text-single : (number a u : ℕ) → width_of number ≡ 1
    → shown_text number a u ≡ shown_digits 1 a u ++ (33 + number) ∷ 10 ∷ []
unfolding shown_text
shown_text-single number a u one = rw one refl

-- a word's value is `b`, its digits, a space and the code
pub shown_text-word : (number a u width : ℕ) → width_of number ≡ width → width ≢ 1
    → shown_text number a u ≡ (98 ∷ shown_digits width a u) ++ 32 ∷ (33 + number) ∷ 10 ∷ []
unfolding shown_text
shown_text-word number a u width is many =
    rw is (rw (ne_eqb width 1 many) (append_assoc (98 ∷ shown_digits width a u) (32 ∷ []) ((33 + number) ∷ 10 ∷ [])))

-- what is ahead, once the digit of the highest place left was put behind xs
pub shown_digits-step : (xs ys : List ℕ) (place a u digit : ℕ) → 0 < place
    → digit ≡ shown_digit (bit_at a (place - 1)) (bit_at u (place - 1)) → xs ++ shown_digits place a u ≡ ys
    → (xs ++ digit ∷ []) ++ shown_digits (place - 1) a u ≡ ys
shown_digits-step xs ys zero a u digit some is ahead = absurd (omega (arith, some))
shown_digits-step xs ys (suc place) a u digit some is ahead =
    let less : suc place - 1 ≡ place = omega arith in
    let at : digit ≡ shown_digit (bit_at a place) (bit_at u place) =
    is ∙ ap (λ p. shown_digit (bit_at a p) (bit_at u p)) less in
    rw less (rw at (append_assoc xs (shown_digit (bit_at a place) (bit_at u place) ∷ []) (shown_digits place a u) ∙ ahead))
