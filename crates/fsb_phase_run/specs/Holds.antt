-- A queue that holds the requests in flight of a run.
use Rattle.std.specs.Prelude.{◌≡◌, ℕ, List, Some, slice_get}
use Rattle.fsb_queue.specs.declared.entry.Entry.{Entry}
use Rattle.fsb_phase.specs.FitQueue.{HoldsInFlight}
use Rattle.fsb_timely.specs.Moments.{choice_at, turns_in}
use Rattle.fsb_timely.specs.Runs.{Run, past_of, requests_below}

-- each entry has the choice of its request, and the request's number among all of them, from 0
pub record AreRequestsOf (queue : List Entry) (r : Run) : Type 0 where
  pub chosen : (k : ℕ) (e : Entry) → slice_get queue k ≡ Some e → e.choice ≡ choice_at r.choices r.trace e.clock
  pub numbered : (k : ℕ) (e : Entry) → slice_get queue k ≡ Some e → e.number ≡ requests_below r.trace e.clock

-- the queue holds, in order, the requests that are in flight after the run, with the effective turns that its moments
-- have, and each with its choice and its number
pub record HoldsRequests (queue : List Entry) (r : Run) : Type 0 where
  pub flight : HoldsInFlight queue (turns_in (past_of r).moments) r.trace
  pub entries : AreRequestsOf queue r
