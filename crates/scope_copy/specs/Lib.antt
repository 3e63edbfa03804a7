pub mod Copying
pub mod Standing
