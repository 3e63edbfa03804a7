pub mod Printed
pub mod RunOf
pub mod Writing
pub use Rattle.fsb_core.specs.Benches
