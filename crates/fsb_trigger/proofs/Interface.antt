-- The lemmas of this crate that others draw on; no other name of its proofs is used outside.

-- The least match stays, however a trace goes on.
pub use Rattle.fsb_trigger.proofs.Least.{least-stays}
