-- What a token says by itself, in the header and behind it.
use Rattle.std.specs.Prelude.{ℕ, Bool, false, ◌&&◌, ◌||◌, not, ◌==◌, nat_le, nat_eq, if◌then◌else◌, List, [], ◌∷◌, length, take, codes, Option, Some, None}
use Rattle.std.specs.List.{list_all, take_while}
use Rattle.std.specs.Cmp.Lexicographic.{pointwise}
use Rattle.vcd_grammar.specs.Digits.{is_value_digit, time_in}

-- two words are one
abbrev pub same : List ℕ → List ℕ → Bool
same a b = pointwise nat_eq a b

-- the token that ends a section
abbrev pub is_end : List ℕ → Bool
is_end word = same (codes "$end") word

-- a token that begins with `$`
abbrev pub is_dollar : List ℕ → Bool
is_dollar [] = false
is_dollar (b ∷ bs) = b == 36

-- what a token says between the sections of the header
pub data HeaderWord : Type 0 where
  Declares : HeaderWord
  Finishes : HeaderWord
  Ends : HeaderWord
  Opens : HeaderWord
  Bare : HeaderWord

-- `$var` declares a variable, `$enddefinitions` ends the header, `$end` alone is read past, any other token with `$`
-- opens a section that is read past
unfoldable pub header_word : List ℕ → HeaderWord
header_word word =
    if same (codes "$var") word then Declares
    else (if same (codes "$enddefinitions") word then Finishes
    else (if is_end word then Ends
    else (if is_dollar word then Opens else Bare)))

-- what a token says between the values
pub data ValueWord : Type 0 where
  Stamp : ℕ → ValueWord
  Scalar : ℕ → List ℕ → ValueWord
  Vector : List ℕ → ValueWord
  Foreign : ValueWord
  Mark : ValueWord
  Section : ValueWord
  Wrong : ValueWord

-- a time stamp
abbrev pub stamp_word : Option ℕ → ValueWord
stamp_word None = Wrong
stamp_word (Some time) = Stamp time

-- one digit and a code, which is not empty
abbrev pub scalar_word : ℕ → List ℕ → ValueWord
scalar_word digit [] = Wrong
scalar_word digit (b ∷ bs) = Scalar digit (b ∷ bs)

-- one digit or more; of them the first 65 count, since no line has more than 64
abbrev pub vector_word : List ℕ → ValueWord
vector_word digits =
    if not (length digits == 0) && list_all is_value_digit digits then Vector (take 65 digits) else Wrong

-- the words behind which changes stand: `$dumpvars`, `$dumpall`, `$dumpon`, `$dumpoff` and `$end`
unfoldable pub is_read_past : List ℕ → Bool
is_read_past word =
    (same (codes "$dumpvars") word || same (codes "$dumpall") word)
    || ((same (codes "$dumpon") word || same (codes "$dumpoff") word) || is_end word)

-- `#` begins a time stamp, a digit a scalar change, `b` a vector, `r` and `s` a real number and a string; any other
-- token with `$` opens a section that is read past
unfoldable pub value_word : List ℕ → ValueWord
value_word [] = Wrong
value_word (b ∷ bs) =
    if b == 35 then stamp_word (time_in bs)
    else (if is_value_digit b then scalar_word b bs
    else (if (b == 98) || (b == 66) then vector_word bs
    else (if ((b == 114) || (b == 82)) || ((b == 115) || (b == 83)) then Foreign
    else (if b == 36 then (if is_read_past (b ∷ bs) then Mark else Section) else Wrong))))

-- the types of variables that are no line, whatever their name
unfoldable pub is_foreign_type : List ℕ → Bool
is_foreign_type word = same (codes "real") word || (same (codes "realtime") word || same (codes "string") word)

-- the name in a reference: what stands before a `[`
abbrev pub name_in : List ℕ → List ℕ
name_in reference = take_while (λ b. not (b == 91)) reference

-- the bytes of a code are 33 to 126
abbrev pub is_code_word : List ℕ → Bool
is_code_word word = list_all (λ b. nat_le 33 b && nat_le b 126) word
