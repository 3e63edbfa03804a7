-- What a trace shows of a request up to its last sample.
use Rattle.std.specs.Prelude.{ℕ, ◌&&◌, if◌then◌else◌, Option, Some, None}
use Rattle.std.specs.Option.{option_map, option_and_then}
use Rattle.fsb_signal.specs.declared.lines.TheConstants.Lines.{DEFER, HIT, HITM}
use Rattle.fsb_signal.specs.Samples.{line_at}
use Rattle.fsb_trace.specs.declared.outcome.Outcome.{Outcome}
use Rattle.fsb_trace.specs.At.{Trace}
use Rattle.fsb_trace.specs.Requests.{is_live, line_of, live_number_of, seen_at}
use Rattle.fsb_trace.specs.Snoop.{snoop_end_of}
use Rattle.fsb_trace.specs.Outcome.{is_deferred, outcome_of, response_clock_of}
use Rattle.fsb_trace.specs.Response.{end_of}
use Rattle.fsb_trace.specs.Flight.{reply_clock_of}
use Rattle.fsb_owner_table.specs.declared.row.Row.{Row}
use Rattle.fsb_owner_table.specs.declared.row.Snooped.{Snooped}

-- a clock of the live request that begins at q, where it is reached; none where the request is cancelled
unfoldable pub reached : (Trace → ℕ → Option ℕ) → Trace → ℕ → Option ℕ
reached clock_of v q = if is_live v q then clock_of v (live_number_of v q) else None

-- the snoop end at s
unfoldable pub snooped_by : Trace → ℕ → Snooped
snooped_by v s = record { clock = s; hit = line_at HIT v s; hitm = line_at HITM v s; defer = line_at DEFER v s }

-- the snoop end of the request that begins at q
unfoldable pub snoop_at : Trace → ℕ → Option Snooped
snoop_at v q = option_map (snooped_by v) (reached snoop_end_of v q)

-- the told outcome of the request that begins at q
unfoldable pub outcome_at : Trace → ℕ → Option Outcome
outcome_at v q = if is_live v q then outcome_of v (live_number_of v q) else None

-- the first clock of the live reply to the request that begins at q, where that is Deferred
unfoldable pub reply_at : Trace → ℕ → Option ℕ
reply_at v q =
    if is_live v q && is_deferred v (live_number_of v q) then reply_clock_of v (live_number_of v q) else None

-- a clock of that reply, where it is reached
unfoldable pub reached_by_reply : (Trace → ℕ → Option ℕ) → Trace → ℕ → Option ℕ
reached_by_reply clock_of v q = option_and_then (reached clock_of v) (reply_at v q)

-- the row of the request that begins at q
unfoldable pub row_at : Trace → ℕ → Row
row_at v q = record {
  seen = seen_at v q;
  line = line_of v q;
  snoop = snoop_at v q;
  response = reached response_clock_of v q;
  outcome = outcome_at v q;
  end = reached end_of v q;
  reply = reply_at v q;
  reply_snoop = reached_by_reply snoop_end_of v q;
  reply_end = reached_by_reply end_of v q;
}
