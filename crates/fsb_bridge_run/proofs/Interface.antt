-- The lemmas of this crate that others draw on; no other name of its proofs is used outside.

-- A list that has the deferrals of a run: the first one, that of a run that grows, how long it is, and one clock on.
pub use Rattle.fsb_bridge_run.proofs.GrownLists.{list-first, list-grown, list-length, list-most, list-room}
pub use Rattle.fsb_bridge_run.proofs.ToldLists.{finds, leaves-list}
-- What the next clock of a run finds in it, before it is known to be timely.
pub use Rattle.fsb_bridge_run.proofs.GrownWords.{grown-any, grown-choice, grown-due, grown-finds, grown-hit}
pub use Rattle.fsb_bridge_run.proofs.GrownWords.{grown-pending, grown-room, grown-taken, grown-there, grown-would}
-- The request that began shows as what it is; and replies are what the priority agent begins.
pub use Rattle.fsb_bridge_run.proofs.ShownWords.{shows-begun, shows-second}
pub use Rattle.fsb_bridge_run.proofs.PriorityReplies.{reply-request, reply-shown}
-- What the words of a clock of a timely run say, by the list.
pub use Rattle.fsb_bridge_run.proofs.ListWords.{any-listed, begun-listed, choice-listed, due-listed, ids-below}
pub use Rattle.fsb_bridge_run.proofs.ListWords.{pending-listed, responds-in-order, would-listed}
pub use Rattle.fsb_bridge_run.proofs.RepliesTake.{hit-taken, reply-takes}
-- A request that is Deferred: its snoop end, and what it is.
pub use Rattle.fsb_bridge_run.proofs.OwnIds.{IsDeferredAt, deferred-at}
