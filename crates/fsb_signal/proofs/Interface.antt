-- The lemmas of this crate that others draw on; no other name of its proofs is used outside.

-- Two samples are equal where their lines and words are, whatever proves their facts.
pub use Rattle.fsb_signal.proofs.SameSample.{same_sample, same_word}
-- Which line is asserted at a clock, as a list of samples grows or is cut.
pub use Rattle.fsb_signal.proofs.AtClock.{line_at-past, slice_get-before}
-- Texts one after another, as one more is put behind them.
pub use Rattle.fsb_signal.proofs.Texts.{texts_from-step}
