-- The lemmas of this crate that others draw on; no other name of its proofs is used outside.

-- Tests and conditionals.
pub use Rattle.fsb_count.proofs.Bools.{cond-most, nat_eq-sym, nat_lt-more}
-- What a test says of a number that may not be reached.
pub use Rattle.fsb_count.proofs.Options.{is_at-from, is_at-if, is_at-off, is_at-some, is_before-from, is_before-if}
pub use Rattle.fsb_count.proofs.Options.{is_before-more, is_before-none, is_before-parts, is_none-none, is_some-none}
pub use Rattle.fsb_count.proofs.Options.{is_some_and-none}
-- The first clock that passes.
pub use Rattle.fsb_count.proofs.First.{first_where-at, first_where-carried, first_where-found, first_where-none}
pub use Rattle.fsb_count.proofs.First.{first_where-off, first_where-same}
-- Whether some clock passes.
pub use Rattle.fsb_count.proofs.Any.{any_where-at, any_where-found, any_where-more, any_where-none, any_where-off}
pub use Rattle.fsb_count.proofs.Any.{any_where-same}
-- What every clock below n passes.
pub use Rattle.fsb_count.proofs.Each.{each_where-all, each_where-at}
-- How many clocks pass.
pub use Rattle.fsb_count.proofs.Count.{count_where-above, count_where-failed, count_where-mono, count_where-more}
pub use Rattle.fsb_count.proofs.Count.{count_where-passed, count_where-same}
-- The k-th clock that passes.
pub use Rattle.fsb_count.proofs.Nth.{all_where-failed, all_where-passed, length-all_where, nth_where-at}
pub use Rattle.fsb_count.proofs.Nth.{nth_where-carried, nth_where-found, nth_where-one, nth_where-past, nth_where-rises}
pub use Rattle.fsb_count.proofs.Nth.{nth_where-there, slice_get-end, slice_get-push}
-- What has held since the last gain.
pub use Rattle.fsb_count.proofs.Since.{holds_since-more, last_where-failed, last_where-passed}
-- The first item of a list that passes, by its place.
pub use Rattle.fsb_count.proofs.FirstItem.{find_item, find_none, find_placed}
