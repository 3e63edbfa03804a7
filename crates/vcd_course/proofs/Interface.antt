-- The lemmas of this crate that others draw on; no other name of its proofs is used outside.

-- One thing after another.
pub use Rattle.vcd_course.proofs.Opening.{after-append, told-append}
