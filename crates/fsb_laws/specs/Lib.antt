pub mod OneMore
pub mod Orderly
pub mod Progress
pub mod Leaving
