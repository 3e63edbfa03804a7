-- The lemmas of this crate that others draw on; no other name of its proofs is used outside.

-- Choices join in any order and any number of times.
pub use Rattle.fsb_hazard.proofs.JoinLaws.{join_commutes, join_nothing}
