pub mod ShownDump
pub mod Showing
pub mod ShowText
