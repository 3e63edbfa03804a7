-- The lemmas of this crate that others draw on; no other name of its proofs is used outside.

-- What the request that begins is: what its agent wants, with the free ID.
pub use Rattle.fsb_run_laws.proofs.BegunIds.{begun-wanted}
-- A snoop end is the one of its request; what ends brings, and what replies serve.
pub use Rattle.fsb_run_laws.proofs.BroughtLines.{brought-told, replied-on, serves-deferred, snoop-below}
-- An agent has an entry at a clock exactly where it has a hit or an arrival.
pub use Rattle.fsb_run_laws.proofs.CompletionClocks.{completes-exactly}
-- The state that a grant gives, and what stores make of one.
pub use Rattle.fsb_run_laws.proofs.GrantedStates.{none-stored, state-granted}
pub use Rattle.fsb_run_laws.proofs.LineStates.{state-by-stores}
-- The last entry of an agent at a clock.
pub use Rattle.fsb_run_laws.proofs.LastEntries.{last-of, last-stays}
-- Which requests stop being outstanding at a clock.
pub use Rattle.fsb_run_laws.proofs.LastTold.{cancelled-last, ends-last, reply-ends-last}
-- What is outstanding at a snoop end or at its last clock, and by what it stops being so.
pub use Rattle.fsb_run_laws.proofs.LeftRequests.{LeavesByEnd, LeftByOwn, LeftByReply, ServesOutstanding, ending-served}
pub use Rattle.fsb_run_laws.proofs.LeftRequests.{ending-serves, last-outstanding, last-says, replied-outstanding}
pub use Rattle.fsb_run_laws.proofs.LeftRequests.{replied-served, snooped-outstanding}
-- Outstanding requests, as the whole trace has them, and one clock further.
pub use Rattle.fsb_run_laws.proofs.OwedRequests.{owed-step, owed-told, owing-claim}
