-- The numbers of a command line.
use Rattle.std.specs.Prelude.{ℕ, ◌^◌, ◌&&◌, nat_le, nat_lt, if◌then◌else◌, Option, Some, None, option_and_then, List, length}
use Rattle.fsb_trigger.specs.Grammar.{decimal_value, number_behind}

-- a number of 1 to `most` decimal digits
unfoldable pub number_in : ℕ → List ℕ → Option ℕ
number_in most word =
    if nat_le 1 (length word) && nat_le (length word) most
    then number_behind 10 decimal_value 0 word else None

-- a number below 2^32
unfoldable pub small : ℕ → Option ℕ
small number = if nat_lt number (2 ^ 32) then Some number else None

-- a number of clocks, or the number of one: 1 to 10 decimal digits, below 2^32
unfoldable pub count_in : List ℕ → Option ℕ
count_in word = option_and_then small (number_in 10 word)

-- a number from 1 to 31
unfoldable pub as_rule : ℕ → Option ℕ
as_rule number = if nat_le 1 number && nat_le number 31 then Some number else None

-- the number of a rule: 1 or 2 decimal digits, from 1 to 31
unfoldable pub rule_in : List ℕ → Option ℕ
rule_in word = option_and_then as_rule (number_in 2 word)
