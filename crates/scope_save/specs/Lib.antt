pub mod Names
pub mod Bits
pub mod Views
pub mod SaveText
