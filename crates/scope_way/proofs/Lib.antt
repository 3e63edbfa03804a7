pub mod Lawfulness
pub mod Ranges
pub mod Fits
pub mod Picked
pub mod Strictness
