pub mod ControlLines
pub mod Samples
pub mod Parity
pub mod Table
pub mod DumpText
