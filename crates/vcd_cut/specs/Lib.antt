pub mod Cutting
pub mod Lanes
pub mod Standing
