-- The numbers of a command line.
use Rattle.std.specs.Prelude.{ℕ, ◌^◌, ◌&&◌, nat_le, nat_lt, if◌then◌else◌, Option, Some, None, option_and_then, List, length}
use Rattle.fsb_trigger.specs.Grammar.{decimal_value, number_behind}

-- a number of 1 to `most` decimal digits
unfoldable pub decimal_word : ℕ → List ℕ → Option ℕ
decimal_word most text =
    if nat_le 1 (length text) && nat_le (length text) most
    then number_behind 10 decimal_value 0 text else None

-- a number below a limit
unfoldable pub below : ℕ → ℕ → Option ℕ
below limit number = if nat_lt number limit then Some number else None

-- a number from 1 to the most that is allowed
unfoldable pub up_to : ℕ → ℕ → Option ℕ
up_to most number = if nat_le 1 number && nat_le number most then Some number else None

-- a seed: 1 to 20 decimal digits, below 2^64
unfoldable pub seed_named : List ℕ → Option ℕ
seed_named text = option_and_then (below (2 ^ 64)) (decimal_word 20 text)

-- a number of agents: 1 to 4 decimal digits, from 1 to 4
unfoldable pub agents_named : List ℕ → Option ℕ
agents_named text = option_and_then (up_to 4) (decimal_word 4 text)

-- a number of items: 1 to 4 decimal digits, from 1 to 4,096
unfoldable pub items_named : List ℕ → Option ℕ
items_named text = option_and_then (up_to 4096) (decimal_word 4 text)

-- the number of a clock of a dump: 1 to 10 decimal digits, below 2^32
unfoldable pub clock_named : List ℕ → Option ℕ
clock_named text = option_and_then (below (2 ^ 32)) (decimal_word 10 text)
