-- The lemmas of this crate that others draw on; no other name of its proofs is used outside.

-- Lists of entries, one entry on.
pub use Rattle.fsb_queue.proofs.EntryLists.{length-without}
