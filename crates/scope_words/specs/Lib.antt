pub mod Numbers
pub mod Moments
pub mod Names
pub mod Orders
