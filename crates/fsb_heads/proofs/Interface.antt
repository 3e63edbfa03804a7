-- The lemmas of this crate that others draw on; no other name of its proofs is used outside.

-- How many live requests have their snoop end.
pub use Rattle.fsb_heads.proofs.Counts.{snoops_count, snoops_to, snooped_count-more}
-- The last snoop end, one sample on, the last value below a number, and the number of responses where one more comes.
pub use Rattle.fsb_heads.proofs.Steps.{last_snoop_end-more, value_before-same, count_answered}
