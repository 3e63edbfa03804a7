pub mod Cancels
pub mod Reached
pub mod RowGoes
pub mod KeptRows
pub mod Closed
pub mod Fresh
pub mod KeptLists
