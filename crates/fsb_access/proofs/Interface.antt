-- The lemmas of this crate that others draw on; no other name of its proofs is used outside.

-- Bytes and numbers of a memory: what is put, what is found again, and what stays.
pub use Rattle.fsb_access.proofs.ByteLaws.{bytes_at-beside, bytes_at-is, bytes_at-same, place-within_line}
pub use Rattle.fsb_access.proofs.ByteLaws.{put_value-inside, put_value-outside}
-- The chunks of a flat memory, and the byte memory that they stand for.
pub use Rattle.fsb_access.proofs.Chunks.{get_or-put_mid, put_bytes-low}
-- How the order of a log goes on by the entries of an agent's next item.
pub use Rattle.fsb_access.proofs.OrderLaws.{InOrder-empty, InOrder-next, comes_again-absent, steps_of-append}
pub use Rattle.fsb_access.proofs.OrderLaws.{steps_of-nobody, steps_of-other}
-- A log that is served is served in each of its beginnings.
pub use Rattle.fsb_access.proofs.ReplayLaws.{Served-append, Served-front, replayed_values-append}
