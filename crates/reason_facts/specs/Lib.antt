pub mod Facts
pub mod Kinds
pub mod Unknown
pub mod Values
