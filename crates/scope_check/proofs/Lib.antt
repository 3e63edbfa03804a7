pub mod Counting
mod Replying
mod Samples
mod Stamping
mod Told
mod Growing
mod Turns
mod PartTurns
pub mod Interface
