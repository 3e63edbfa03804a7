pub mod Losses
pub mod Unbroken
pub mod OneClock
