pub mod Joint
pub mod Shown
pub mod Possible
pub mod Least
pub mod Rules
