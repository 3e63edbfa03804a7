pub mod Examples
mod Rows
pub mod Append
pub mod MarkFacts
mod HeadingFacts
pub mod Interface
