-- The lines of a text, the words of a line, and numbers.
use Rattle.std.specs.Prelude.{ℕ, ◌+◌, ◌-◌, ◌*◌, ◌^◌, List, [], ◌∷◌, length, take, drop, Result, Ok, Err, Bool, true, false, ◌&&◌, ◌||◌, nat_lt, nat_le, ◌==◌, if◌then◌else◌}
use Rattle.fsb_script.specs.Parsing.{◌>>=◌, require}
use Rattle.fsb_script.specs.declared.fault.Cause.{Cause}
use Rattle.fsb_script.specs.declared.fault.Cause.TheVariants.{Number, Range, Missing, After, Outside}

-- a byte before the first line of the lines that follow it; a line feed ends a line
abbrev pub in_front : ℕ → List (List ℕ) → List (List ℕ)
in_front b [] = (b ∷ []) ∷ []
in_front b (line ∷ lines) = (b ∷ line) ∷ lines

-- a byte before lines: a line feed ends a line of its own, any other byte stands at the front of the first one
abbrev pub before_lines : ℕ → List (List ℕ) → List (List ℕ)
before_lines b lines = if b == 10 then [] ∷ lines else in_front b lines

-- the lines of a text, without their line feeds; the last line may lack it
abbrev pub text_lines : List ℕ → List (List ℕ)
text_lines [] = []
text_lines (b ∷ bs) = before_lines b (text_lines bs)

-- how many bytes stand before the first line feed
abbrev pub line_len : List ℕ → ℕ
line_len [] = 0
line_len (b ∷ bs) = if b == 10 then 0 else 1 + line_len bs

-- what divides words: spaces, tabs and carriage returns
abbrev pub is_blank : ℕ → Bool
is_blank b = ((b == 32) || (b == 9)) || (b == 13)

-- what follows the blanks at the front
abbrev pub skip_blanks : List ℕ → List ℕ
skip_blanks [] = []
skip_blanks (b ∷ bs) = if is_blank b then skip_blanks bs else b ∷ bs

-- how many bytes stand before the first blank
abbrev pub word_len : List ℕ → ℕ
word_len [] = 0
word_len (b ∷ bs) = if is_blank b then 0 else 1 + word_len bs

-- a line that may stand anywhere but first: without words, or its first word begins with a number sign
abbrev pub begins_as_comment : List ℕ → Bool
begins_as_comment [] = true
begins_as_comment (b ∷ bs) = b == 35

-- whether a line from the second on is read past
unfoldable pub is_silent : List ℕ → Bool
is_silent line = begins_as_comment (skip_blanks line)

-- the word at the front, which isn't empty, and what follows it
abbrev pub word_at : List ℕ → Result (List ℕ × List ℕ) Cause
word_at [] = Err Missing
word_at (b ∷ bs) = Ok (take (word_len (b ∷ bs)) (b ∷ bs), drop (word_len (b ∷ bs)) (b ∷ bs))

-- the next word of a line
unfoldable pub next_word : List ℕ → Result (List ℕ × List ℕ) Cause
next_word line = word_at (skip_blanks line)

-- whether nothing is left
abbrev pub is_empty : List ℕ → Bool
is_empty [] = true
is_empty (b ∷ bs) = false

-- what was read of a line, where the line has no further word
unfoldable pub line_ended : {A : Type 0} → A → List ℕ → Result A Cause
line_ended x line = require (is_empty (skip_blanks line)) After x

-- the number that decimal digits add to the digits before them
abbrev pub decimal_from : ℕ → List ℕ → Result ℕ Cause
decimal_from n [] = Ok n
decimal_from n (b ∷ bs) = if nat_le 48 b && nat_le b 57 then decimal_from (n * 10 + (b - 48)) bs else Err Number

-- a word as a decimal number, which has 1 to 18 digits
unfoldable pub decimal_of : List ℕ → Result ℕ Cause
decimal_of word = if nat_le 1 (length word) && nat_le (length word) 18 then decimal_from 0 word else Err Number

-- what a hexadecimal digit stands for, of either case
unfoldable pub hex_digit : ℕ → Result ℕ Cause
hex_digit b =
    if nat_le 48 b && nat_le b 57 then Ok (b - 48)
    else (if nat_le 97 b && nat_le b 102 then Ok (b - 87)
    else (if nat_le 65 b && nat_le b 70 then Ok (b - 55) else Err Number))

-- the number that hexadecimal digits add to the digits before them
abbrev pub hex_from : ℕ → List ℕ → Result ℕ Cause
hex_from n [] = Ok n
hex_from n (b ∷ bs) = hex_digit b >>= (λ digit. hex_from (n * 16 + digit) bs)

-- a word as a hexadecimal number, which has 1 to 16 digits
unfoldable pub hex_of : List ℕ → Result ℕ Cause
hex_of word = if nat_le 1 (length word) && nat_le (length word) 16 then hex_from 0 word else Err Number

-- the next word as a decimal number
unfoldable pub decimal_word : List ℕ → Result (ℕ × List ℕ) Cause
decimal_word line = do
  w ← next_word line
  n ← decimal_of w.0
  Ok (n, w.1)

-- the next word as a hexadecimal number
unfoldable pub hex_word : List ℕ → Result (ℕ × List ℕ) Cause
hex_word line = do
  w ← next_word line
  n ← hex_of w.0
  Ok (n, w.1)

-- a decimal number within its bounds
unfoldable pub decimal_within : ℕ → ℕ → List ℕ → Result (ℕ × List ℕ) Cause
decimal_within low high line = do
  n ← decimal_word line
  require (nat_le low n.0 && nat_le n.0 high) Range n

-- a byte address: hexadecimal and below 2^36
unfoldable pub address : List ℕ → Result (ℕ × List ℕ) Cause
address line = do
  n ← hex_word line
  require (nat_lt n.0 (2 ^ 36)) Outside n
