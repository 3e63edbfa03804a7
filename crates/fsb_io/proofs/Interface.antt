-- The lemmas of this crate that others draw on; no other name of its proofs is used outside.

-- How far a text is written, piece by piece.
pub use Rattle.fsb_io.proofs.Written.{Written, written_all, written_more, written_none, written_part}
