-- The value of a line that is written is one change, which sets the line so.
use Rattle.std.proofs.Common.{◌≡◌, ℕ, zero, suc, ◌-◌, ◌<◌, Bool, true, false, not, List, [], ◌∷◌, ◌++◌, length, map, Option, Some}
use Rattle.std.proofs.Common.{refl, ap, ◌∙◌, arith, codes, ◌⊎◌, inl, inr}
use Rattle.std.specs.Prelude.{◌==◌, if◌then◌else◌}
use Rattle.std.specs.Int.{bit_at}
use Rattle.std.specs.List.{list_all}
use Rattle.std.proofs.lemmas.Bool.{ne_eqb, le-ltb, eqb-true}
use Rattle.std.proofs.lemmas.List.{take_all}
use Rattle.fsb_signal.specs.DumpText.{dump_code_of, width_of}
use Rattle.vcd_grammar.specs.Tokens.{is_white}
use Rattle.vcd_grammar.specs.Digits.{is_value_digit, extended}
use Rattle.vcd_grammar.specs.Words.{value_word}
use Rattle.vcd_grammar.specs.Codes.{lines_of}
use Rattle.vcd_grammar.specs.Judging.{TokenTurn, Pending, goes_to, turn}
use Rattle.vcd_laws.proofs.Pieces.{Word, Does, does-token, does-tokens, is_plain}
use Rattle.vcd_laws.proofs.Known.{Two, Listed, listed, sets, changed}
use Rattle.scope_write.specs.Text.{is_written, shown_digit, shown_digits, shown_text}
use Rattle.scope_write.proofs.Entries.{numbers_below, own_code, shown, declared-is, code-own}

-- ---- digits

pub length-shown_digits : (width a u : ℕ) → length (shown_digits width a u) ≡ width
length-shown_digits zero a u = refl
length-shown_digits (suc width) a u = ap suc (length-shown_digits width a u)

-- a digit is one of three
abbrev pub IsShown : ℕ → Type 0
IsShown d = (d ≡ 48) ⊎ ((d ≡ 49) ⊎ (d ≡ 120))

pub a_digit : (a u : ℕ) → IsShown (shown_digit a u)
a_digit a u = by (u == 1) (a == 1)
  where
    by : (s t : Bool) → IsShown (if s then 120 else (if t then 48 else 49))
    by true t = inr (inr refl)
    by false true = inl refl
    by false false = inr (inl refl)

-- what holds of the three holds of all
all-shown_digits : (p : ℕ → Bool) → p 48 ≡ true → p 49 ≡ true → p 120 ≡ true → (width a u : ℕ)
    → list_all p (shown_digits width a u) ≡ true
all-shown_digits p low high dark zero a u = refl
all-shown_digits p low high dark (suc width) a u =
    rw (one (bit_at a width) (bit_at u width)) (all-shown_digits p low high dark width a u)
  where
    by : (s t : Bool) → p (if s then 120 else (if t then 48 else 49)) ≡ true
    by true t = dark
    by false true = low
    by false false = high

    one : (b c : ℕ) → p (shown_digit b c) ≡ true
    one b c = by (c == 1) (b == 1)

-- a value of all digits stays as it is
pub extended-shown_digits : (width a u : ℕ) → extended width (shown_digits width a u) ≡ shown_digits width a u
unfolding extended
extended-shown_digits width a u =
    let none : width - length (shown_digits width a u) ≡ 0 = omega (arith, length-shown_digits width a u) in
    rw none refl

-- ---- an entry that is written

-- the lines of its code, its width, and its code as a token
pub record Entry (there : List Bool) (number : ℕ) : Type 0 where
  pub lines : lines_of (map own_code (numbers_below there 22)) (dump_code_of number ∷ []) ≡ Some (number ∷ [])
  pub listed : Listed Two number

pub an_entry : (there : List Bool) (number : ℕ) → number < 22 → is_written there number ≡ true → Entry there number
an_entry there number h w = record {
  lines = code-own (numbers_below there 22) number (declared-is there 22 number h ∙ w);
  listed = listed Two number h;
}

-- ---- a single line: its digit and its code are one token

scalar_turns : (there : List Bool) (number digit at : ℕ) (time : Option ℕ) → Entry there number → IsShown digit →
    turn (shown there time) (record { place = at; word = digit ∷ dump_code_of number ∷ [] })
    ≡ record { known = shown there time; events = changed (sets number (digit ∷ []) ∷ []) }
unfolding turn value_word
scalar_turns there number digit at time l (inl low) = rw low (rw l.lines refl)
scalar_turns there number digit at time l (inr (inl high)) = rw high (rw l.lines refl)
scalar_turns there number digit at time l (inr (inr unknown)) = rw unknown (rw l.lines refl)

scalar_word : (there : List Bool) (number digit : ℕ) → Entry there number → IsShown digit
    → Word (digit ∷ dump_code_of number ∷ [])
scalar_word there number digit l (inl low) =
    record { some = omega arith; few = omega arith; plain = rw low l.listed.code.plain }
scalar_word there number digit l (inr (inl high)) =
    record { some = omega arith; few = omega arith; plain = rw high l.listed.code.plain }
scalar_word there number digit l (inr (inr unknown)) =
    record { some = omega arith; few = omega arith; plain = rw unknown l.listed.code.plain }

pub does-scalar : (there : List Bool) (number digit : ℕ) (time : Option ℕ) → Entry there number → IsShown digit →
    Does ((digit ∷ dump_code_of number ∷ []) ++ 10 ∷ []) (shown there time) (shown there time)
    (changed (sets number (digit ∷ []) ∷ []))
does-scalar there number digit time l d =
    does-token _ 10 _ _ _ (scalar_word there number digit l d) refl (λ at. scalar_turns there number digit at time l d)

-- ---- the value of a word: its digits are a token, and its code is the next one

-- some digits, as many as the line has
record Full (number : ℕ) (digits : List ℕ) : Type 0 where
  length : length digits ≡ width_of number
  values : list_all is_value_digit digits ≡ true
  plain : is_plain digits ≡ true

vector_turns : (there : List Bool) (number at : ℕ) (digits : List ℕ) (time : Option ℕ) → Entry there number
    → Full number digits →
    turn (shown there time) (record { place = at; word = 98 ∷ digits }) ≡ goes_to (shown there time) (Pending at digits)
unfolding turn value_word
vector_turns there number at digits time l f =
    rw (le-ltb 70000 (length (98 ∷ digits)) (omega (arith, l.listed.few, f.length)))
    (rw (ne_eqb (length digits) 0 (λ e. omega (arith, l.listed.some, f.length)))
    (rw f.values
    (rw (take_all 65 digits (omega (arith, l.listed.few, f.length))) refl)))

code_turns : (there : List Bool) (number from at : ℕ) (digits : List ℕ) (time : Option ℕ) → Entry there number
    → Full number digits →
    turn (record (shown there time) { mode = Pending from digits })
    (record { place = at; word = dump_code_of number ∷ [] })
    ≡ record { known = shown there time; events = changed (sets number digits ∷ []) }
unfolding turn
code_turns there number from at digits time l f =
    rw l.lines (rw (le-ltb (width_of number) (length digits) (omega (arith, f.length))) refl)

vector_word_is : (there : List Bool) (number : ℕ) (digits : List ℕ) → Entry there number → Full number digits
    → Word (98 ∷ digits)
vector_word_is there number digits l f = record {
  some = omega arith;
  few = omega (arith, l.listed.few, f.length);
  plain = f.plain;
}

does-vector : (there : List Bool) (number : ℕ) (digits : List ℕ) (time : Option ℕ) → Entry there number
    → Full number digits →
    Does (((98 ∷ digits) ++ 32 ∷ []) ++ ((dump_code_of number ∷ []) ++ 10 ∷ [])) (shown there time)
    (shown there time) (changed (sets number digits ∷ []))
does-vector there number digits time l f =
    does-tokens (98 ∷ digits) 32 (dump_code_of number ∷ []) 10 (shown there time) (shown there time)
    (changed (sets number digits ∷ []))
    (vector_word_is there number digits l f) refl l.listed.code refl
    (λ at next. ap (λ (u : TokenTurn).
    (turn u.known (record { place = next; word = dump_code_of number ∷ [] })).known)
    (vector_turns there number at digits time l f)
    ∙ ap (λ u. u.known) (code_turns there number at next digits time l f))
    (λ at next. ap (λ (u : TokenTurn). u.events
    ++ ((turn u.known (record { place = next; word = dump_code_of number ∷ [] })).events ++ []))
    (vector_turns there number at digits time l f)
    ∙ ap (λ u. u.events ++ []) (code_turns there number at next digits time l f))

full : (number a u : ℕ) → Full number (shown_digits (width_of number) a u)
full number a u = record {
  length = length-shown_digits (width_of number) a u;
  values = all-shown_digits is_value_digit refl refl refl (width_of number) a u;
  plain = all-shown_digits (λ b. not (is_white b)) refl refl refl (width_of number) a u;
}

-- the value of a line is one change
pub does-value : (there : List Bool) (number a u : ℕ) (time : Option ℕ) → Entry there number →
    Does (shown_text number a u) (shown there time) (shown there time)
    (changed (sets number (shown_digits (width_of number) a u) ∷ []))
unfolding shown_text
does-value there number a u time l = by (width_of number == 1) refl
  where
    by : (t : Bool) → (width_of number == 1) ≡ t →
        Does (if t then shown_digits 1 a u ++ dump_code_of number ∷ 10 ∷ []
        else codes "b" ++ shown_digits (width_of number) a u ++ codes " " ++ dump_code_of number ∷ 10 ∷ [])
        (shown there time) (shown there time) (changed (sets number (shown_digits (width_of number) a u) ∷ []))
    by true e = rw (eqb-true (width_of number) 1 e)
        (does-scalar there number (shown_digit (bit_at a 0) (bit_at u 0)) time l (a_digit (bit_at a 0) (bit_at u 0)))
    by false e = does-vector there number (shown_digits (width_of number) a u) time l (full number a u)
