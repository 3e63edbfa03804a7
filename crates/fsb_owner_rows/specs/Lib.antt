pub mod OfRow
pub mod Kept
