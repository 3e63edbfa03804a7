-- What other crates draw on.
pub use Rattle.fsb_cache.proofs.Places.{power_is_positive}
-- Numbers in the bytes of a line.
pub use Rattle.fsb_cache.proofs.LineBytes.{loaded_as_in_memory, stored_as_in_memory}
