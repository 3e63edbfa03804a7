-- A clock of a dump as a user names it.
use Rattle.std.specs.Prelude.{ℕ, nat_eq, nat_lt, ◌||◌, if◌then◌else◌, Option, Some, None, List, take, drop, codes}
use Rattle.std.specs.List.{position}
use Rattle.std.specs.Cmp.Lexicographic.{pointwise}
use Rattle.scope_words.specs.declared.moment.Moment.{Moment}
use Rattle.scope_words.specs.declared.moment.Moment.TheVariants.{Clock, Time}
use Rattle.scope_words.specs.declared.moment.Unit.{Unit}
use Rattle.scope_words.specs.declared.moment.Unit.TheVariants.{Second, Millisecond, Microsecond, Nanosecond, Picosecond, Femtosecond}
use Rattle.scope_words.specs.Numbers.{count_in, number_in}

-- the unit that a word is
unfoldable pub unit_in : List ℕ → Option Unit
unit_in word =
    if pointwise nat_eq word (codes "s") then Some Second
    else if pointwise nat_eq word (codes "ms") then Some Millisecond
    else if pointwise nat_eq word (codes "us") then Some Microsecond
    else if pointwise nat_eq word (codes "ns") then Some Nanosecond
    else if pointwise nat_eq word (codes "ps") then Some Picosecond
    else if pointwise nat_eq word (codes "fs") then Some Femtosecond
    else None

-- the clock of this number
unfoldable pub clock_with : Option ℕ → Option Moment
clock_with None = None
clock_with (Some clock) = Some (Clock clock)

-- so many of the unit, where both are there
unfoldable pub time_with : Option ℕ → Option Unit → Option Moment
time_with None unit = None
time_with (Some count) None = None
time_with (Some count) (Some unit) = Some (Time count unit)

-- the moment of a word whose unit begins at this place: 1 to 19 decimal digits before it; without a unit the number of a clock
unfoldable pub moment_at : List ℕ → Option ℕ → Option Moment
moment_at word None = clock_with (count_in word)
moment_at word (Some place) = time_with (number_in 19 (take place word)) (unit_in (drop place word))

-- the moment that a word names: a clock's number, or a time with its unit right behind its digits
unfoldable pub moment_in : List ℕ → Option Moment
moment_in word = moment_at word (position (λ b. nat_lt b 48 || nat_lt 57 b) word)
