-- The value of a line that is written is one change, which sets the line so.
use Rattle.std.proofs.Common.{◌≡◌, ℕ, Bool, true, false, not, List, [], ◌∷◌, ◌++◌, length, refl, ap, ◌∙◌, arith, codes}
use Rattle.std.proofs.Common.{◌⊎◌, inl, inr}
use Rattle.std.specs.Prelude.{◌==◌, if◌then◌else◌}
use Rattle.std.specs.Int.{bit_at}
use Rattle.std.specs.List.{list_all}
use Rattle.std.proofs.lemmas.Bool.{ne_eqb, le-ltb, eqb-true}
use Rattle.std.proofs.lemmas.List.{take_all}
use Rattle.fsb_signal.specs.DumpText.{dump_code_of, width_of, digit_of, digits_of, value_text}
use Rattle.vcd_grammar.specs.Tokens.{is_white}
use Rattle.vcd_grammar.specs.Digits.{is_value_digit}
use Rattle.vcd_grammar.specs.Words.{value_word}
use Rattle.vcd_grammar.specs.Judging.{TokenTurn, Pending, goes_to, turn}
use Rattle.vcd_laws.proofs.Pieces.{Word, Does, does-token, does-tokens, is_plain}
use Rattle.vcd_laws.proofs.Digits.{length-digits_of, all-digits_of, digit}
use Rattle.vcd_laws.proofs.Known.{Profile, written, Listed, sets, changed}

-- a single line: its digit and its code are one token
scalar_turns : (p : Profile) (number digit time at : ℕ) → Listed p number → (digit ≡ 48) ⊎ (digit ≡ 49) →
    turn (written p time) (record { place = at; word = digit ∷ dump_code_of number ∷ [] })
    ≡ record { known = written p time; events = changed (sets number (digit ∷ []) ∷ []) }
unfolding turn value_word
scalar_turns p number digit time at l (inl low) = rw low (rw l.lines refl)
scalar_turns p number digit time at l (inr high) = rw high (rw l.lines refl)

scalar_word : (p : Profile) (number digit : ℕ) → Listed p number → (digit ≡ 48) ⊎ (digit ≡ 49)
    → Word (digit ∷ dump_code_of number ∷ [])
scalar_word p number digit l (inl low) = record { some = omega arith; few = omega arith; plain = rw low l.code.plain }
scalar_word p number digit l (inr high) = record { some = omega arith; few = omega arith; plain = rw high l.code.plain }

pub does-scalar : (p : Profile) (number digit time : ℕ) → Listed p number → (digit ≡ 48) ⊎ (digit ≡ 49) →
    Does ((digit ∷ dump_code_of number ∷ []) ++ 10 ∷ []) (written p time) (written p time)
    (changed (sets number (digit ∷ []) ∷ []))
does-scalar p number digit time l d =
    does-token _ 10 _ _ _ (scalar_word p number digit l d) refl (λ at. scalar_turns p number digit time at l d)

-- ---- the value of a word: its digits are a token, and its code is the next one

-- some digits 0 and 1, as many as the line has
record Full (number : ℕ) (digits : List ℕ) : Type 0 where
  length : length digits ≡ width_of number
  values : list_all is_value_digit digits ≡ true
  plain : is_plain digits ≡ true

vector_turns : (p : Profile) (number time at : ℕ) (digits : List ℕ) → Listed p number → Full number digits →
    turn (written p time) (record { place = at; word = 98 ∷ digits }) ≡ goes_to (written p time) (Pending at digits)
unfolding turn value_word
vector_turns p number time at digits l f =
    rw (le-ltb 70000 (length (98 ∷ digits)) (omega (arith, l.few, f.length)))
    (rw (ne_eqb (length digits) 0 (λ e. omega (arith, l.some, f.length)))
    (rw f.values
    (rw (take_all 65 digits (omega (arith, l.few, f.length))) refl)))

code_turns : (p : Profile) (number time from at : ℕ) (digits : List ℕ) → Listed p number → Full number digits →
    turn (record (written p time) { mode = Pending from digits })
    (record { place = at; word = dump_code_of number ∷ [] })
    ≡ record { known = written p time; events = changed (sets number digits ∷ []) }
unfolding turn
code_turns p number time from at digits l f =
    rw l.lines (rw (le-ltb (width_of number) (length digits) (omega (arith, f.length))) refl)

vector_word_is : (p : Profile) (number : ℕ) (digits : List ℕ) → Listed p number → Full number digits
    → Word (98 ∷ digits)
vector_word_is p number digits l f = record {
  some = omega arith;
  few = omega (arith, l.few, f.length);
  plain = f.plain;
}

does-vector : (p : Profile) (number time : ℕ) (digits : List ℕ) → Listed p number → Full number digits →
    Does (((98 ∷ digits) ++ 32 ∷ []) ++ ((dump_code_of number ∷ []) ++ 10 ∷ [])) (written p time)
    (written p time) (changed (sets number digits ∷ []))
does-vector p number time digits l f =
    does-tokens (98 ∷ digits) 32 (dump_code_of number ∷ []) 10 (written p time) (written p time)
    (changed (sets number digits ∷ []))
    (vector_word_is p number digits l f) refl l.code refl
    (λ at next. ap (λ (u : TokenTurn).
    (turn u.known (record { place = next; word = dump_code_of number ∷ [] })).known)
    (vector_turns p number time at digits l f) ∙ ap (λ u. u.known) (code_turns p number time at next digits l f))
    (λ at next. ap (λ (u : TokenTurn). u.events
    ++ ((turn u.known (record { place = next; word = dump_code_of number ∷ [] })).events ++ []))
    (vector_turns p number time at digits l f)
    ∙ ap (λ u. u.events ++ []) (code_turns p number time at next digits l f))

full : (number value : ℕ) → Full number (digits_of (width_of number) value)
full number value = record {
  length = length-digits_of (width_of number) value;
  values = all-digits_of is_value_digit refl refl (width_of number) value;
  plain = all-digits_of (λ b. not (is_white b)) refl refl (width_of number) value;
}

-- the value of a line is one change
pub does-value : (p : Profile) (number value time : ℕ) → Listed p number →
    Does (value_text number value) (written p time) (written p time)
    (changed (sets number (digits_of (width_of number) value) ∷ []))
unfolding value_text
does-value p number value time l = by (width_of number == 1) refl
  where
    by : (t : Bool) → (width_of number == 1) ≡ t →
        Does (if t then digits_of 1 value ++ dump_code_of number ∷ 10 ∷ []
        else codes "b" ++ digits_of (width_of number) value ++ codes " " ++ dump_code_of number ∷ 10 ∷ [])
        (written p time) (written p time) (changed (sets number (digits_of (width_of number) value) ∷ []))
    by true e = rw (eqb-true (width_of number) 1 e)
        (does-scalar p number (digit_of (bit_at value 0)) time l (digit (bit_at value 0)))
    by false e = does-vector p number time (digits_of (width_of number) value) l (full number value)
