pub mod Looked
pub mod Looking
pub mod SearchText
