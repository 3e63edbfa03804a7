pub mod Told
pub mod Gathering
pub mod Standing
