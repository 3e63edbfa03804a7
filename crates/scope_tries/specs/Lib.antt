pub mod Hints
pub mod Tries
