-- The table of a trace: a row for each request.
use Rattle.std.specs.Prelude.{ℕ, if◌then◌else◌, List, map, None, length}
use Rattle.fsb_count.specs.Clocks.{all_where}
use Rattle.fsb_signal.specs.declared.lines.TheConstants.Lines.{ADS}
use Rattle.fsb_signal.specs.Samples.{line_at}
use Rattle.fsb_trace.specs.declared.seen.Seen.{Seen}
use Rattle.fsb_trace.specs.At.{Trace}
use Rattle.fsb_trace.specs.Requests.{is_cancelled, live_number_of, seen_at}
use Rattle.fsb_trace.specs.Snoop.{snoop_end_of}
use Rattle.fsb_trace.specs.Outcome.{response_clock_of, outcome_of}
use Rattle.fsb_trace.specs.Response.{end_of}
use Rattle.fsb_table.specs.declared.row.Row.{Row}

-- the row of live request i, which is seen so
unfoldable pub live_row : Trace → ℕ → Seen → Row
live_row w i seen = record {
  seen = seen;
  snoop = snoop_end_of w i;
  response = response_clock_of w i;
  end = end_of w i;
  outcome = outcome_of w i;
}

-- the row of a cancelled request, which is seen so
unfoldable pub cancelled_row : Seen → Row
cancelled_row seen = record { seen = seen; snoop = None; response = None; end = None; outcome = None }

-- the row of the request that begins at q
unfoldable pub row_at : Trace → ℕ → Row
row_at w q =
    if is_cancelled w q then cancelled_row (seen_at w q) else live_row w (live_number_of w q) (seen_at w q)

-- the rows of all requests of the trace, in order
unfoldable pub rows_of : Trace → List Row
rows_of w = map (row_at w) (all_where (line_at ADS w) (length w))
