pub mod Options
pub mod Clocks
