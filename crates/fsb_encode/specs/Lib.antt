pub mod Request
pub mod Decoded
pub mod Burst
