-- The lemmas of this crate for the simulator that keeps the list; no other name of its proofs is to be used outside.

-- Each entry of a list that stands for the deferrals of a trace, and a list of such entries.
pub use Rattle.fsb_bridge.proofs.Entries.{AreEntriesOf-IsEntryOf, IsEntryOf, IsEntryOf-AreEntriesOf}
pub use Rattle.fsb_bridge.proofs.Entries.{IsEntryOf-StandsFor}
pub use Rattle.fsb_bridge.proofs.Matched.{Matched, both-Matched, map-Matched}
-- What is left of a list without its first element that passes a test.
pub use Rattle.fsb_bridge.proofs.Rest.{rest, rest_found, rest_more}
-- What such a list tells of the trace.
pub use Rattle.fsb_bridge.proofs.Pending.{is_waited_for-StandsFor}
pub use Rattle.fsb_bridge.proofs.Due.{due_deferral-StandsFor}
pub use Rattle.fsb_bridge.proofs.Responses.{RespondsInOrder-accepted}
pub use Rattle.fsb_bridge.proofs.Taken.{deferral_of_id-StandsFor, deferral_of_id-reply, waiting_without-reply}
