pub mod Order
pub mod Arbiter
