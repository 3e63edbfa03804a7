-- Which requests of a trace are over, and which are in flight.
use Rattle.std.specs.Prelude.{ℕ, zero, suc, ◌-◌, Bool, ◌&&◌, not, if◌then◌else◌, Option, Some, None, List, [], ◌++◌, take, length, filter}
use Rattle.std.specs.Option.{option_to_list}
use Rattle.circular_buffer.specs.Buffer.{keep_last}
use Rattle.fsb_signal.specs.declared.lines.TheConstants.Lines.{ADS}
use Rattle.fsb_trace.specs.At.{Trace, line_back}
use Rattle.fsb_owner_table.specs.declared.row.Row.{Row}
use Rattle.fsb_owner_table.specs.Rows.{row_at}
use Rattle.fsb_owner_table.specs.Kept.{is_row_closed, rows_of}

-- the request is over in n clocks, and not in one less: with the last of them it is dropped, or is outstanding no more
abbrev pub is_newly_over : Row → ℕ → Bool
is_newly_over row n = is_row_closed row n && not (is_row_closed row (n - 1))

-- the rows of the requests that are over with the last clock of v, in order of their first clocks
abbrev pub newly_over : Trace → List Row
newly_over v = filter (λ row. is_newly_over row (length v)) (rows_of v)

-- those of the requests that were over in the first n clocks of v: in the order in which they were over, and where several
-- were so with one clock, in order of their first clocks
unfoldable pub over_until : Trace → ℕ → List Row
over_until v zero = []
over_until v (suc n) = over_until v n ++ newly_over (take (suc n) v)

-- those of all that were over in v
abbrev pub over_of : Trace → List Row
over_of v = over_until v (length v)

-- the last ten of them
abbrev pub past_of : Trace → List Row
past_of v = keep_last 10 (over_of v)

-- the row of the request that begins at the last clock of v, if one does
unfoldable pub last_begun : Trace → Option Row
last_begun v = if line_back ADS v (length v) 1 then Some (row_at v (length v - 1)) else None

-- the rows of the requests in flight at the end of v, in order of their first clocks
abbrev pub flight_of : Trace → List Row
flight_of v = filter (λ row. not (is_row_closed row (length v))) (rows_of v) ++ option_to_list (last_begun v)
