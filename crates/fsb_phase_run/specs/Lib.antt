pub mod Holds
pub mod Responding
