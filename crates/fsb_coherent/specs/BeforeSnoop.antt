-- A line of the pure machine in the middle of a clock: its response, hits, first clock and cancellation are counted, and
-- its snoop end is not.
use Rattle.std.specs.Prelude.{◌≡◌, ◌<◌, ◌+◌, ◌&&◌, ◌||◌, ◌++◌, ℕ, false, not, is_some, List, Some}
use Rattle.fsb_line.specs.Events.{Event}
use Rattle.fsb_line.specs.Line.{MemoryLine, OpenRequest}
use Rattle.fsb_line.specs.States.{is_held, is_modified, is_sole}
use Rattle.fsb_timely.specs.Past.{Past}
use Rattle.fsb_timely.specs.Grants.{begun_at, holds_line, is_evicted, is_exclusive}
use Rattle.fsb_timely.specs.Hits.{is_dirty}
use Rattle.fsb_timely.specs.Runs.{past_to}
use Rattle.fsb_coherent.specs.Awaits.{purpose_wanted}
use Rattle.fsb_coherent.specs.Facts.{does_respond_on}
use Rattle.fsb_coherent.specs.LineEvents.{begins_on, cancels_on, ends_on, hits_on, others_on, responds_on, snoops_on}
use Rattle.fsb_coherent.specs.Relation.{chain_below, deferral_below, is_cancelled_below, is_moved_below, is_snooped_below}

-- the events of the line at n before its snoop end
unfoldable pub events_before_snoop : Past → ℕ → ℕ → List Event
events_before_snoop p line n = responds_on p line n ++ hits_on p line n ++ begins_on p line n ++ cancels_on p line n

-- its snoop end, and the events behind it
unfoldable pub events_from_snoop : Past → ℕ → ℕ → List Event
events_from_snoop p line n = snoops_on p line n ++ ends_on p line n ++ others_on p line n

-- agent a's request on the line is open before the snoop end of n: it began at n or below as what a wanted there, and was
-- neither cancelled at n or below nor snooped below n
pub record IsOpenThrough (p : Past) (a line n : ℕ) (request : OpenRequest) : Type 0 where
  pub before : request.number < n + 1
  pub begun : begun_at p request.number ≡ Some (record { first = request.number; agent = a; line = line })
  pub wanted : purpose_wanted (past_to p request.number) a request.number ≡ Some request.kind
  pub uncancelled : is_cancelled_below p (n + 1) request.number ≡ false
  pub unsnooped : is_snooped_below p n request.number ≡ false

-- the line of the machine is that of the run at clock n before the snoop end: held, exclusive and dirty are told with the
-- hits of n counted, for whoever does not drop the line there; a response at n has put its data on the bus
pub record TiedThrough (p : Past) (line n : ℕ) (x : MemoryLine) : Type 0 where
  pub held : (a : ℕ) → is_held (x.state a) ≡ (holds_line p a line n && not (is_evicted p a line n))
  pub sole : (a : ℕ) → is_sole (x.state a) ≡ (is_exclusive p a line n && not (is_evicted p a line n))
  pub modified : (a : ℕ) → is_modified (x.state a) ≡ is_dirty p a line n
  pub asked : (a : ℕ) (request : OpenRequest) → x.ask a ≡ Some request → IsOpenThrough p a line n request
  pub opened : (a : ℕ) (request : OpenRequest) → IsOpenThrough p a line n request → x.ask a ≡ Some request
  pub chain : x.chain ≡ chain_below p line n
  pub deferral : x.deferral ≡ deferral_below p line n
  pub moved : is_some x.moved ≡ (is_moved_below p line n || does_respond_on p line n)
