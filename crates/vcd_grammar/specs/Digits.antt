-- Numbers, and the digits of a value: 0, 1, x for unknown and z for open, x and z in either case.
use Rattle.std.specs.Prelude.{ℕ, ◌+◌, ◌-◌, ◌*◌, ◌^◌, Bool, not, ◌&&◌, ◌||◌, ◌==◌, nat_le, if◌then◌else◌, List, [], ◌∷◌, ◌++◌, length, slice_index, replicate, Option, Some, None}
use Rattle.std.specs.List.{list_all}

-- a decimal digit
abbrev pub is_digit : ℕ → Bool
is_digit b = nat_le 48 b && nat_le b 57

-- the number that decimal digits make of the number before them
abbrev pub number_from : ℕ → List ℕ → ℕ
number_from n [] = n
number_from n (b ∷ bs) = number_from (n * 10 + (b - 48)) bs

-- one decimal digit or more
abbrev pub is_number : List ℕ → Bool
is_number word = not (length word == 0) && list_all is_digit word

-- the decimal number that a word is, where it is one and not above a limit
unfoldable pub number_up_to : ℕ → List ℕ → Option ℕ
number_up_to limit word =
    if is_number word && nat_le (number_from 0 word) limit then Some (number_from 0 word) else None

-- the width that a declaration tells
abbrev pub width_in : List ℕ → Option ℕ
width_in word = number_up_to 1000000 word

-- the time that a stamp tells behind its number sign: 1 to 20 digits
unfoldable pub time_in : List ℕ → Option ℕ
time_in digits = if nat_le (length digits) 20 then number_up_to (2 ^ 64 - 1) digits else None

-- the digit x
abbrev pub is_unknown : ℕ → Bool
is_unknown b = (b == 120) || (b == 88)

-- the digit z
abbrev pub is_open : ℕ → Bool
is_open b = (b == 122) || (b == 90)

-- a digit of a value
abbrev pub is_value_digit : ℕ → Bool
is_value_digit b = ((b == 48) || (b == 49)) || (is_unknown b || is_open b)

-- the digit that is put before a value that is too short: x or z where its first digit is that, else 0
abbrev pub pad_of : ℕ → ℕ
pad_of b = if is_unknown b || is_open b then b else 48

-- a value, extended on the left to a width
unfoldable pub extended : ℕ → List ℕ → List ℕ
extended width digits = replicate (width - length digits) (pad_of (slice_index digits 0)) ++ digits
