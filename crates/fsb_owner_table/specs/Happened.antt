-- What happens to requests with a sample, as a trace shows it.
use Rattle.std.specs.Prelude.{◌≡◌, ◌<◌, ℕ, ◌+◌, ◌-◌, Bool, true, if◌then◌else◌, Option, Some, None, length}
use Rattle.fsb_count.specs.Options.{is_at}
use Rattle.fsb_signal.specs.declared.lines.TheConstants.Lines.{ADS}
use Rattle.fsb_signal.specs.declared.sample.Sample.{Sample}
use Rattle.fsb_signal.specs.Samples.{line_at}
use Rattle.fsb_trace.specs.At.{Trace, line_back}
use Rattle.fsb_trace.specs.Snoop.{snoop_end_of}
use Rattle.fsb_trace.specs.Outcome.{response_clock_of}
use Rattle.fsb_trace.specs.Response.{end_of}
use Rattle.fsb_laws.specs.OneMore.{OneMore, cancels}
use Rattle.fsb_laws.specs.Orderly.{Orderly}
use Rattle.fsb_owner_table.specs.declared.happened.Happened.{Happened}
use Rattle.fsb_owner_table.specs.declared.row.Row.{Row}
use Rattle.fsb_owner_table.specs.Rows.{reached, row_at}

-- the clock of the request that begins at q is n
unfoldable pub reaches : (Trace → ℕ → Option ℕ) → Trace → ℕ → ℕ → Bool
reaches clock_of v n q = is_at (reached clock_of v q) n

-- the row of the request of the last clock but one
unfoldable pub begun_row : Trace → ℕ → Option Row
begun_row v n = if line_back ADS v n 1 then Some (row_at v (n - 1)) else None

-- v is h and then the sample x, and this happens with x; both keep the distance of requests and the time of responses
pub record Happens (h : Trace) (x : Sample) (v : Trace) (happened : Happened) : Type 0 where
  pub more : OneMore h x v
  pub orderly : Orderly h
  pub after : Orderly v
  pub clock : happened.clock ≡ length h
  pub cancelled : (q : ℕ) → is_at happened.cancelled q ≡ cancels x (length h) q
  pub snooped : (q : ℕ) → is_at happened.snooped q ≡ reaches snoop_end_of v (length h) q
  pub answered : (q : ℕ) → is_at happened.answered q ≡ reaches response_clock_of v (length h) q
  pub ended : (q : ℕ) → is_at happened.ended q ≡ reaches end_of v (length h) q
  pub begun : happened.begun ≡ begun_row v (length h)

-- and row is that of a request of h that is decoded there
pub record Goes (h : Trace) (x : Sample) (v : Trace) (happened : Happened) (q : ℕ) (row : Row) : Type 0 where
  pub happens : Happens h x v happened
  pub asks : line_at ADS h q ≡ true
  pub decoded : q + 1 < length h
  pub is_row : row ≡ row_at h q
