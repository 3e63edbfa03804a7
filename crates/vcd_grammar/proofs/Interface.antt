-- The lemmas of this crate that others draw on; no other name of its proofs is used outside.

-- Bytes behind bytes, tokens behind tokens, and events behind events.
pub use Rattle.vcd_grammar.proofs.Append.{behind-append, blocks_some, ended-cons, events_in-append, open-append}
pub use Rattle.vcd_grammar.proofs.Append.{tokens-append}
-- Once the header is over, the marks are known and stay; before that no time has come, so no block has ended.
pub use Rattle.vcd_grammar.proofs.MarkFacts.{marks-first, marks-longer, marks-whole, marks-ended}
