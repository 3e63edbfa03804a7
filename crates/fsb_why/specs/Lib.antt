pub mod Look
pub mod Explains
