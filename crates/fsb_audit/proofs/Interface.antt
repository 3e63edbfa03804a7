-- The lemmas of this crate that others draw on; no other name of its proofs is used outside.

-- Nothing is found in no sample.
pub use Rattle.fsb_audit.proofs.Starts.{nothing_yet}
-- What is found stays found, and what is found with the newest clock.
pub use Rattle.fsb_audit.proofs.Findings.{nothing}
-- Which live request's data come at a clock, and that this stays however an orderly trace goes on.
pub use Rattle.fsb_audit.proofs.Movers.{GoesOnFrom, Responded, after_response, before_end, data_forth}
pub use Rattle.fsb_audit.proofs.Movers.{first_where-alike, live_below, mover_is, mover_parts, one_mover, place_found}
pub use Rattle.fsb_audit.proofs.Movers.{place_is, responded, same_request, still_responded}
-- Which chunk is moved at a clock, and whether the clock is foul, stays however an orderly trace goes on.
pub use Rattle.fsb_audit.proofs.Moves.{Answer, answer_live, answer_parts, reply_before, same_data, same_moved}
pub use Rattle.fsb_audit.proofs.Moves.{same_namer}
