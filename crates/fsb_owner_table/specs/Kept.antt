-- The rows that are kept of a trace.
use Rattle.std.specs.Prelude.{◌≡◌, ◌<◌, ℕ, zero, suc, ◌+◌, ◌-◌, nat_lt, Bool, ◌&&◌, ◌||◌, not, if◌then◌else◌, List, [], ◌++◌, Option, Some, None, length}
use Rattle.std.specs.Option.{option_to_list}
use Rattle.fsb_count.specs.Options.{is_before}
use Rattle.fsb_signal.specs.declared.lines.TheConstants.Lines.{ADS}
use Rattle.fsb_signal.specs.Samples.{line_at}
use Rattle.fsb_trace.specs.At.{Trace}
use Rattle.fsb_owner_table.specs.declared.row.Row.{Row}
use Rattle.fsb_owner_table.specs.declared.rows.Rows.{Rows}
use Rattle.fsb_owner_table.specs.Rows.{row_at}
use Rattle.fsb_owner_table.specs.RowAfter.{is_row_deferred}

-- the last clock of the request as outstanding: its end, or, if it is Deferred, that of its reply
abbrev pub row_last_clock : Row → Option ℕ
row_last_clock row = if is_row_deferred row then row.reply_end else row.end

-- the request was cancelled, and its address error lies below c
abbrev pub is_row_dropped : Row → ℕ → Bool
is_row_dropped row c = row.seen.cancelled && nat_lt (row.seen.clock + 3) c

-- the request was dropped below c, or its last clock as outstanding lies there
abbrev pub is_row_closed : Row → ℕ → Bool
is_row_closed row c = is_row_dropped row c || is_before (row_last_clock row) c

-- the row of the request that begins at q, where it is not closed for two clocks before the last one of v
unfoldable pub kept_at : Trace → ℕ → Option Row
kept_at v q = if line_at ADS v q && not (is_row_closed (row_at v q) (length v - 3)) then Some (row_at v q) else None

-- those that begin below n, in order
unfoldable pub kept_below : Trace → ℕ → List Row
kept_below v zero = []
kept_below v (suc n) = kept_below v n ++ option_to_list (kept_at v n)

-- the rows of the requests whose second clock is there, in order
abbrev pub rows_of : Trace → List Row
rows_of v = kept_below v (length v - 1)

-- this is a row of the trace that is kept, and its request is decoded there
pub record IsKept (v : Trace) (row : Row) : Type 0 where
  pub is : kept_at v row.seen.clock ≡ Some row
  pub decoded : row.seen.clock + 1 < length v

-- what is left of a row, at the end of v
abbrev pub left_in : Trace → Row → Option Row
left_in v row = kept_at v row.seen.clock

-- the rows are those that are kept of the trace
pub record Stands (rows : Rows) (h : Trace) : Type 0 where
  pub kept : rows.items.items ≡ rows_of h
