-- The lemmas of this crate that others draw on; no other name of its proofs is used outside.
-- What the states of a line say of one another, and what a snoop end leaves of them.
pub use Rattle.fsb_line.proofs.StateFacts.{granted_owns, modified_is_sole, snoop_not_sole, sole_is_held}
-- A list of events that may happen keeps the machine ordered, and its values those of one memory.
pub use Rattle.fsb_line.proofs.Theorem.{ordered_run, ordered_unheld, run-now, valued_run, valued_unheld}
-- A line whose bytes are there has a copy.
pub use Rattle.fsb_line.proofs.Values.{ready_has_copy}
