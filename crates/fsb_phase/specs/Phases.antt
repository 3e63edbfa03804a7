-- The history that the phases stand for.
use Rattle.std.specs.Prelude.{◌≡◌, ℕ, false, Option, List, length}
use Rattle.fsb_signal.specs.declared.sample.Sample.{Sample}
use Rattle.fsb_signal.specs.Samples.{response_of}
use Rattle.fsb_trace.specs.At.{Trace}
use Rattle.fsb_trace.specs.Outcome.{response_clock_of}
use Rattle.fsb_trace.specs.Response.{answer_from}
use Rattle.fsb_laws.specs.Orderly.{Orderly}
use Rattle.fsb_laws.specs.Progress.{response_count}
use Rattle.fsb_heads.specs.Heads.{Stands as HeadsStands, value_before}
use Rattle.fsb_queue.specs.declared.entry.Entry.{Entry}
use Rattle.fsb_phase.specs.declared.phases.Phases.{Phases}
use Rattle.fsb_phase.specs.FitQueue.{HoldsInFlight, is_too_soon}
use Rattle.fsb_phase.specs.Drive.{drive_of}

-- the last response clock
unfoldable pub last_response : Trace → Option ℕ
last_response h = value_before (response_clock_of h) (response_count h)

-- the phases keep of the history its heads, the clock from which the next request to respond is answered and the last
-- response clock; and the requests of the history keep their distance, and its responses come in time
pub record Stands (phases : Phases) (h : Trace) : Type 0 where
  pub heads : HeadsStands phases.heads h
  pub from : phases.from ≡ answer_from h (response_count h)
  pub response : phases.response ≡ last_response h
  pub orderly : Orderly h

-- the clock is the next one of the history that the phases stand for, and the queue holds the requests in flight there
pub record IsNext (phases : Phases) (clock : ℕ) (queue : List Entry) (turns : List ℕ) (h : Trace) : Type 0 where
  pub stands : Stands phases h
  pub clock_is : clock ≡ length h
  pub flight : HoldsInFlight queue turns h

-- the phases may take the sample as the next of the history: the clock is the number of samples taken, the queue holds the
-- requests in flight, RS# is what is driven, and a request begins no sooner than three clocks after the one before it
pub record MayTake (clock : ℕ) (x : Sample) (queue : List Entry) (turns : List ℕ) (h : Trace) : Type 0 where
  pub clock_is : clock ≡ length h
  pub flight : HoldsInFlight queue turns h
  pub answers : response_of x ≡ (drive_of h queue).rs
  pub spaced : is_too_soon h x ≡ false
