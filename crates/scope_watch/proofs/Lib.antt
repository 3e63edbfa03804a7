mod Prefaces
mod Headers
mod Wiring
mod Steps
mod Texts
mod Picks
mod Stopping
pub mod Checks
mod Clocks
