-- Where the view stands.
use Rattle.std.specs.Prelude.{ℕ, ◌-◌, ◌*◌, ◌/◌, ◌^◌, min, max, unwrap_or}
use Rattle.std.specs.Int.Count.{count_leading_zeros}
use Rattle.scope_save.specs.declared.mark.Mark.{Mark}

-- a number of at most 64 bits: at the last one it stays
abbrev pub capped : ℕ → ℕ
capped n = min n (2 ^ 64 - 1)

-- the marker stands one unit before the edge: the judged sample is what the lines are there
unfoldable pub marker_of : Mark → ℕ
marker_of m = capped (m.time * m.factor) - 1

-- how long the clock before the edge is, in units
unfoldable pub clock_of : Mark → ℕ
clock_of m = max (capped ((m.time - unwrap_or m.before 0) * m.factor)) 1

-- how often 1 is doubled up to a number below 2^64
unfoldable pub doublings : ℕ → ℕ
doublings n = 63 - count_leading_zeros 64 n

-- where a view begins of which 200 pixels show so many doublings of a unit, and the middle the marker
unfoldable pub begin_of : ℕ → ℕ → ℕ
begin_of marker n = marker - capped (5 * 2 ^ n) / 2
