-- Each clock of a timely run keeps the tie of each line, so its events may happen, and the machine's line is that
-- of the run.
use Rattle.fsb_tied.proofs.Words
use Words.{ℕ, ◌<◌, ◌≤◌, length, arith, Bytes, unheld, MayRun, run, Run, past_of, Timely, KeepsBounds, IsTiedTo}
use Words.{KeepsTie, events_below, TiedThrough, events_before_snoop, facts-keep-ties, first-events, may-below}
use Rattle.fsb_tied.proofs.ClocksOfRuns.{clock-facts}

pub keeps-ties : (r : Run) (line n : ℕ) → Timely r → KeepsBounds r.plan → n < length r.trace
    → KeepsTie (past_of r) line n
keeps-ties r line n h bounds l = facts-keep-ties (past_of r) line n (clock-facts r line n h bounds l)

pub events-may-happen : (r : Run) (line n : ℕ) (bytes : Bytes) → Timely r → KeepsBounds r.plan → n ≤ length r.trace
    → MayRun (unheld bytes) (events_below (past_of r) line n)
    × IsTiedTo (past_of r) line n (run (unheld bytes) (events_below (past_of r) line n))
events-may-happen r line n bytes h bounds l =
    may-below (past_of r) line n bytes (λ c below. keeps-ties r line c h bounds (omega arith))

-- and in the middle of a clock, with its hits counted
pub tied-through : (r : Run) (line n : ℕ) (bytes : Bytes) → Timely r → KeepsBounds r.plan → n < length r.trace
    → TiedThrough (past_of r) line n
    (run (run (unheld bytes) (events_below (past_of r) line n)) (events_before_snoop (past_of r) line n))
tied-through r line n bytes h bounds l =
    let tied = (events-may-happen r line n bytes h bounds (omega arith)).1 in
    (first-events (past_of r) line n (run (unheld bytes) (events_below (past_of r) line n))
    (clock-facts r line n h bounds l)
    tied.valued tied.tied).1
