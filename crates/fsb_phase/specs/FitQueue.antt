-- What a queue has to hold, and what a sample has to show, for the phases to follow.
use Rattle.std.specs.Prelude.{◌≡◌, ℕ, Bool, true, ◌&&◌, ◌||◌, List, map, Some, length, slice_get, slice_index}
use Rattle.fsb_signal.specs.declared.lines.TheConstants.Lines.{ADS}
use Rattle.fsb_signal.specs.declared.sample.Sample.{Sample}
use Rattle.fsb_signal.specs.Samples.{has_line}
use Rattle.fsb_trace.specs.At.{Trace, line_back}
use Rattle.fsb_trace.specs.Requests.{live_request_of, is_write_back}
use Rattle.fsb_trace.specs.Outcome.{settled_outcome_of}
use Rattle.fsb_trace.specs.Flight.{in_flight}
use Rattle.fsb_queue.specs.declared.entry.Entry.{Entry}
use Rattle.fsb_phase.specs.Due.{rank_of}

-- the queue holds, in order, the requests that are in flight at the next clock, each with its settled outcome where its
-- snoop end lies in the history, and with none where it does not. The turns are the effective turns of the live requests,
-- in order: 0 to keep, 1 to retry, two more than the clocks for which a request is put off; a write-back is kept.
pub record HoldsInFlight (queue : List Entry) (turns : List ℕ) (h : Trace) : Type 0 where
  pub clocks : map (λ e. e.clock) queue ≡ in_flight h (length h)
  pub settled : (k : ℕ) (e : Entry) → slice_get queue k ≡ Some e → e.outcome ≡ settled_outcome_of h turns (rank_of h e)
  pub kept : (i : ℕ) → is_write_back (live_request_of h i) ≡ true → slice_index turns i ≡ 0

-- a request begins with the sample as the next of the history, and one began at one of the two clocks before
unfoldable pub is_too_soon : Trace → Sample → Bool
is_too_soon h x = has_line x ADS && (line_back ADS h (length h) 1 || line_back ADS h (length h) 2)
