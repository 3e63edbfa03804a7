-- The lemmas of this crate that others draw on; no other name of its proofs is used outside.

-- A line some clocks back, and the last clock that passes.
pub use Rattle.fsb_reasons.proofs.Words.{back_fails, back_from, back_parts, last_one, last_two}
-- What a reason says where there is no winner, and what an ID is by.
pub use Rattle.fsb_reasons.proofs.Begins.{identified-none, identified-other, identified-reply, unwon-free, unwon-locked}
