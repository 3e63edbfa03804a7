-- How many bytes the lines of a dump take.
use Rattle.std.specs.Prelude.{ℕ, ◌+◌, ◌==◌, if◌then◌else◌, zero, suc}
use Rattle.fsb_signal.specs.DumpText.{width_of}

-- the bytes of the line of a value: a digit, a code and a line feed, and for a word also the `b` and a space
abbrev pub value_room : ℕ → ℕ
value_room number = if width_of number == 1 then 3 else width_of number + 4

-- the bytes of the lines of the values of the entries below this number, but for the clock's
abbrev pub values_room : ℕ → ℕ
values_room zero = 0
values_room (suc zero) = 0
values_room (suc (suc number)) = values_room (suc number) + value_room (suc number)
