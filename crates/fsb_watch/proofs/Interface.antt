-- The lemmas of this crate that others draw on; no other name of its proofs is used outside.

-- a refusal says the same of a text, whatever Ok would say
pub use Rattle.fsb_watch.proofs.WholeTexts.{refused_alike}
