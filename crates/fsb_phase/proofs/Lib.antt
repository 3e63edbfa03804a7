pub mod TimingFacts
pub mod Finds
pub mod Entries
pub mod Snoops
pub mod Settled
pub mod Oldest
pub mod Driven
pub mod Responses
pub mod Course
mod CloseRequests
pub mod Interface
