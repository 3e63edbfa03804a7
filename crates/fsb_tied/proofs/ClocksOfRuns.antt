-- Each clock of a timely run has the facts on which the tie of a line rests.
use Rattle.fsb_tied.proofs.Words
use Words.{ℕ, ◌<◌, length, Run, past_of, Timely, past-begins, ClockFacts, KeepsBounds}
use Rattle.fsb_tied.proofs.BeginFacts.{begins-in-order}
use Rattle.fsb_tied.proofs.FactsOfAccesses.{accesses-served}
use Rattle.fsb_tied.proofs.LinkOrder.{ends-in-order, responds-in-order}
use Rattle.fsb_tied.proofs.SettledSnoops.{settles-in-order}

pub clock-facts : (r : Run) (line n : ℕ) → Timely r → KeepsBounds r.plan → n < length r.trace
    → ClockFacts (past_of r) line n
clock-facts r line n h bounds l = record {
  goes_on = past-begins r n h l;
  responds = responds-in-order r line n h l;
  ends = ends-in-order r line n h l;
  accesses = accesses-served r line n h l;
  begins = begins-in-order r line n h bounds l;
  settles = settles-in-order r line n h bounds l;
}
