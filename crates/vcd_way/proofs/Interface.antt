-- The lemmas of this crate that others draw on; no other name of its proofs is used outside.

-- Tokens behind tokens, and the tokens of a longer text.
pub use Rattle.vcd_way.proofs.Headings.{state-append, tokens_longer}
-- Once the header is over, it stays so; after a fault nothing changes; without one a token counts.
pub use Rattle.vcd_way.proofs.Headings.{past-behind, fault-behind, sound-step}
