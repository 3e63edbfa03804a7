pub mod Sets
pub mod Steps
pub mod LineClock
pub mod Lines
