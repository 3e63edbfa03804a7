mod Answered
mod Completing
pub mod Interface
mod Rows
pub mod Statuses
mod Stops
mod Tables
mod Telling
