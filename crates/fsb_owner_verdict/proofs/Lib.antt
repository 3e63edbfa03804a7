pub mod Unique
pub mod Earlier
