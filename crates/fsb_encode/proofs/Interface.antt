-- The lemmas of this crate that others draw on; no other name of its proofs is used outside.

-- A lawful request is read off its two clocks, so no other lawful request has them.
pub use Rattle.fsb_encode.proofs.CodedRequests.{request_of_coded}
