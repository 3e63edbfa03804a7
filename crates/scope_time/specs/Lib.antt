pub mod Scales
pub mod Parts
