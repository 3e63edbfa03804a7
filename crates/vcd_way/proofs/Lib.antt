mod Blocks
mod Digits
mod Header
mod Values
mod Same
mod Headings
mod Longer
mod Rows
mod Widths
pub mod Interface
