pub mod Rows
pub mod Happened
pub mod RowAfter
pub mod Kept
