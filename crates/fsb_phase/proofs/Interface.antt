-- The lemmas of this crate that others draw on; no other name of its proofs is used outside.

-- The first element of a list that passes, by its place.
pub use Rattle.fsb_phase.proofs.Finds.{Found, if_passes, find-cases, find-first, find-off, find-place, none_is}
-- The entries of a queue that holds the requests in flight: their outcomes, their places and their numbers.
pub use Rattle.fsb_phase.proofs.Entries.{held, Placed, placed}
-- Snoop clocks and stalls that are driven are those that are due.
pub use Rattle.fsb_phase.proofs.Snoops.{has_snoop-at, not_reached_from, outcome_reached, reached_before, snoop_at}
pub use Rattle.fsb_phase.proofs.Snoops.{snoop_elsewhere}
-- The snoop end that the next sample is.
pub use Rattle.fsb_phase.proofs.Snoops.{ends_entry, later_none, number_stays}
-- What the next sample brings: no other request than the oldest ends with it.
pub use Rattle.fsb_phase.proofs.Course.{Step, no_end, step, unended_after}
