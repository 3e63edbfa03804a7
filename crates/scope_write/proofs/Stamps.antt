-- A time stamp that is written is read as that time.
use Rattle.std.proofs.Common.{◌≡◌, ℕ, ◌-◌, ◌^◌, ◌<◌, ◌≤◌, Bool, true, false, List, [], ◌∷◌, ◌++◌, length, Option, Some, None}
use Rattle.std.proofs.Common.{refl, arith, rules}
use Rattle.std.specs.Fmt.{decimal}
use Rattle.std.specs.List.{list_all}
use Rattle.std.proofs.lemmas.Bool.{ne_eqb, le-ltb, le-leb, lt-ltb, leb-true, lt-leb, and_parts}
use Rattle.std.proofs.lemmas.Fmt.{digits_decimal, digits_value-decimal, length-decimal-le, decimal_nonempty}
use Rattle.std.proofs.lemmas.Str.Parse.{IsNumeralModel, numerals_by_fold}
use Rattle.vcd_grammar.specs.Tokens.{is_white}
use Rattle.vcd_grammar.specs.Digits.{is_digit, number_from, number_up_to, time_in}
use Rattle.vcd_grammar.specs.Words.{value_word}
use Rattle.vcd_grammar.specs.Blocks.{Later}
use Rattle.vcd_grammar.specs.Judging.{turn, stamped}
use Rattle.vcd_laws.proofs.Pieces.{Word, Does, does-token, is_plain}
use Rattle.scope_write.proofs.Entries.{shown}

-- the grammar's numbers are those of decimal digits
own : IsNumeralModel (λ ds. list_all is_digit ds ≡ true) (number_from 0)
own = numerals_by_fold _ (search rules) number_from (search rules)

all_digits : (time : ℕ) → time < 2 ^ 64 → list_all is_digit (decimal time) ≡ true
all_digits time h = digits_decimal own time h

value : (time : ℕ) → time < 2 ^ 64 → number_from 0 (decimal time) ≡ time
value time h = digits_value-decimal own time h

few : (time : ℕ) → time < 2 ^ 64 → length (decimal time) ≤ 20
few time h = length-decimal-le 20 time (omega arith) (omega arith) h

digit_plain : (b : ℕ) → is_digit b ≡ true → is_white b ≡ false
digit_plain b h =
    let low : 48 ≤ b = leb-true 48 b (and_parts _ _ h).0 in
    rw (le-leb 9 b (omega arith), lt-leb b 13 (omega arith), ne_eqb b 32 (λ e. omega arith)) refl

digits_plain : (ds : List ℕ) → list_all is_digit ds ≡ true → is_plain ds ≡ true
digits_plain [] h = refl
digits_plain (b ∷ bs) h = rw (digit_plain b (and_parts _ _ h).0) (digits_plain bs (and_parts _ _ h).1)

stamp_is_word : (time : ℕ) → time < 2 ^ 64 → Word (35 ∷ decimal time)
stamp_is_word time h = record {
  some = omega arith;
  few = omega (arith, few time h);
  plain = digits_plain (decimal time) (all_digits time h);
}

time_read : (time : ℕ) → time < 2 ^ 64 → time_in (decimal time) ≡ Some time
unfolding time_in number_up_to
time_read time h =
    rw (le-leb (length (decimal time)) 20 (few time h))
    (rw (ne_eqb (length (decimal time)) 0 (λ e. omega (arith, decimal_nonempty time h)))
    (rw (all_digits time h)
    (rw (value time h)
    (rw (le-leb time (2 ^ 64 - 1) (omega (arith, h))) refl))))

-- a time comes after another, if there is one
abbrev pub IsAfter : Option ℕ → ℕ → Type 0
IsAfter None time = Unit {0}
IsAfter (Some last) time = last < time

is_later : (there : List Bool) (last : Option ℕ) (time at : ℕ) → IsAfter last time →
    stamped (shown there last) at time last ≡ record { known = shown there (Some time); events = Later ∷ [] }
is_later there None time at h = refl
is_later there (Some last) time at h = rw (le-ltb time last (omega (arith, h))) (rw (lt-ltb last time h) refl)

-- a later time
pub does-stamp : (there : List Bool) (last : Option ℕ) (time : ℕ) → IsAfter last time → time < 2 ^ 64
    → Does ((35 ∷ decimal time) ++ 10 ∷ []) (shown there last) (shown there (Some time)) (Later ∷ [])
unfolding turn value_word
does-stamp there last time next h = does-token (35 ∷ decimal time) 10 (shown there last) (shown there (Some time))
    (Later ∷ []) (stamp_is_word time h) refl (λ at.
    rw (le-ltb 70000 (length (35 ∷ decimal time)) (omega (arith, few time h)))
    (rw (time_read time h) (is_later there last time at next)))
