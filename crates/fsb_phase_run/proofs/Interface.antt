-- The lemmas of this crate that others draw on; no other name of its proofs is used outside.

-- What a run keeps that grows by one clock.
pub use Rattle.fsb_phase_run.proofs.Grown.{agree-back, agree-cut, agree-grown, choice-grown, choice-same, live-same}
pub use Rattle.fsb_phase_run.proofs.Grown.{longer, snooped-same}
-- The entries of a queue that holds the requests in flight of a run, and its live requests.
pub use Rattle.fsb_phase_run.proofs.HeldEntries.{EntryOf, entry-flying, entry-held, number-held}
-- A request without its snoop end has not responded.
pub use Rattle.fsb_phase_run.proofs.Unanswered.{responded-snoop, snoops-first}
-- What the phases drive at the next clock.
pub use Rattle.fsb_phase_run.proofs.CodeDrive.{code-drive, settled-same}
pub use Rattle.fsb_phase_run.proofs.DataDrive.{busy-drive, chunk-drive}
pub use Rattle.fsb_phase_run.proofs.ReadyDrive.{ready-drive}
pub use Rattle.fsb_phase_run.proofs.RespondsNow.{code-shown, shown, shown-now}
pub use Rattle.fsb_phase_run.proofs.StallDrive.{stall-drive}
-- What the phases tell of the next clock.
pub use Rattle.fsb_phase_run.proofs.SnoopedNow.{number-grown, snooped-now}
pub use Rattle.fsb_phase_run.proofs.EndedNow.{ended-now}
pub use Rattle.fsb_phase_run.proofs.RespondedNow.{responded-now, retried-now}
-- The queue after the clock, and the turns of the longer run.
pub use Rattle.fsb_phase_run.proofs.QueueGoesOn.{queue-goes-on}
pub use Rattle.fsb_phase_run.proofs.TakenTurns.{outcome-settled, turn-same}
pub use Rattle.fsb_phase_run.proofs.KeptTurns.{write-back-kept}
-- The entry of a request whose data move, and what it has at the new clock.
pub use Rattle.fsb_phase_run.proofs.MovingEntries.{chunk-way, way-entry}
