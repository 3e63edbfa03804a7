-- The lemmas of this crate that others draw on; no other name of its proofs is used outside.

-- What is counted is no more than there are events.
pub use Rattle.scope_check.proofs.Counting.{clocks-few, counted-few, if-err}
