pub mod Begins
pub mod Table
