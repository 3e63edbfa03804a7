pub mod Tabled
pub mod Standing
