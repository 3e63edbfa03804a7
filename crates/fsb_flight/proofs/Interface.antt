-- The lemmas of this crate that others draw on; no other name of its proofs is used outside.

-- A list that is mapped, filtered or longer comes from its parts.
pub use Rattle.fsb_flight.proofs.QueueStep.{append_from, filter_from, map_from}
-- The queue after a clock holds the requests in flight again, and its numbers rise.
pub use Rattle.fsb_flight.proofs.QueueStep.{goes_on-holds}
pub use Rattle.fsb_flight.proofs.Numbers.{rising-goes_on}
