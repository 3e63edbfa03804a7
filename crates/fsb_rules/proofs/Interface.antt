-- The lemmas of this crate that others draw on; no other name of its proofs is used outside.

-- What the checker answers, and what it stands for, after one sample more.
pub use Rattle.fsb_rules.proofs.Feeds.{as_broken-none}
-- Data clocks, by the parts of what is said of them, and what a sample that breaks no rule says of what is kept.
pub use Rattle.fsb_rules.proofs.ComingChunks.{IsDataClock, data_clock-from, data_clock-parts, found_none, unbroken_now}
pub use Rattle.fsb_rules.proofs.LeastRule.{IsUnbroken, decoded_lawful}
