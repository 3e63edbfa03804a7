pub mod Due
pub mod FitQueue
pub mod Drive
pub mod Phases
