-- The events of a clock before its snoop end may happen to the line of the machine, and keep it that of the run.
use Rattle.fsb_coherent.proofs.Words
use Words.{ℕ, ◌+◌, ◌++◌, List, arith, Valued, Event, MemoryLine, OpenRequest, MayRun, run, Past, ClockFacts, begins_on}
use Words.{cancels_on, hits_on, responds_on, Tied, IsOpenThrough, TiedThrough, events_before_snoop}
use Rattle.fsb_coherent.proofs.Begun.{WithBegun}
use Rattle.fsb_coherent.proofs.CancelStep.{cancels-step}
use Rattle.fsb_coherent.proofs.FirstClockStep.{begins-step}
use Rattle.fsb_coherent.proofs.HitSteps.{AfterHits, hits-step}
use Rattle.fsb_coherent.proofs.ResponseStep.{AfterResponse, responds-step}
use Rattle.fsb_coherent.proofs.TiedBetween.{Goes, IsOpenTo, goes-on}

open-through : (p : Past) (a line n : ℕ) (request : OpenRequest) → IsOpenTo p a line n (n + 1) (n + 1) request
    → IsOpenThrough p a line n request
open-through p a line n request o = grind arith

from-through : (p : Past) (a line n : ℕ) (request : OpenRequest) → IsOpenThrough p a line n request
    → IsOpenTo p a line n (n + 1) (n + 1) request
from-through p a line n request o = grind arith

tied-through : (p : Past) (line n : ℕ) (x : MemoryLine) → WithBegun p line n (n + 1) x → TiedThrough p line n x
tied-through p line n x t = record {
  held = t.held;
  sole = t.sole;
  modified = t.modified;
  asked = λ a request e. open-through p a line n request (t.asked a request e);
  opened = λ a request o. t.opened a request (from-through p a line n request o);
  chain = t.chain;
  deferral = t.deferral;
  moved = t.moved;
}

-- the response, the hits, the request that begins and the one that is cancelled, one after the other
four-steps : (p : Past) (line n : ℕ) (x : MemoryLine) → ClockFacts p line n → Valued x → Tied p line n x
    → Goes x (events_before_snoop p line n) (WithBegun p line n (n + 1))
unfolding events_before_snoop
four-steps p line n x h v t =
    let r : List Event = responds_on p line n in
    let hits : List Event = hits_on p line n in
    let begins : List Event = begins_on p line n in
    let responded = responds-step p line n x h.responds v t in
    let hit = goes-on x r hits (AfterResponse p line n) (AfterHits p line n) responded (λ y s.
    hits-step p line n y h.accesses s) in
    let begun = goes-on x (r ++ hits) begins (AfterHits p line n) (WithBegun p line n n) hit (λ y s.
    begins-step p line n y h.begins h.goes_on s) in
    let cancels : List Event = cancels_on p line n in
    goes-on x (r ++ hits ++ begins) cancels (WithBegun p line n n) (WithBegun p line n (n + 1)) begun (λ y s.
    cancels-step p line n y h.begins s)

pub first-events : (p : Past) (line n : ℕ) (x : MemoryLine) → ClockFacts p line n → Valued x → Tied p line n x
    → MayRun x (events_before_snoop p line n) × TiedThrough p line n (run x (events_before_snoop p line n))
first-events p line n x h v t =
    let steps = four-steps p line n x h v t in
    (steps.0, tied-through p line n (run x (events_before_snoop p line n)) steps.1)
