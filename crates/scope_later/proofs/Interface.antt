-- The lemmas of this crate that others draw on; no other name of its proofs is used outside.

-- What is found of a part stays, and is found with the broken clock.
pub use Rattle.scope_later.proofs.Finding.{Goes, found-goes}
