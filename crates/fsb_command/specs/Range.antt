-- The range of clocks that two words name.
use Rattle.std.specs.Prelude.{ℕ, ◌-◌, ◌&&◌, nat_le, if◌then◌else◌, Option, Some, None, option_and_then, List}
use Rattle.fsb_command.specs.Number.{clock_named}
use Rattle.fsb_wave.specs.declared.range.ClockRange.{ClockRange}

-- the first and the last clock of a range
abbrev pub range_view : ClockRange → ℕ × ℕ
range_view range = (range.from, range.to)

-- the range between two clocks: its first is not above its last, and it has at most 64
unfoldable pub range_between : ℕ → ℕ → Option (ℕ × ℕ)
range_between from to = if nat_le from to && nat_le (to - from) 63 then Some (from, to) else None

-- the range that two words name
unfoldable pub range_of : List ℕ → List ℕ → Option (ℕ × ℕ)
range_of from to =
    option_and_then (λ first. option_and_then (range_between first) (clock_named to))
    (clock_named from)
