pub mod FailedRows
pub mod Spoils
