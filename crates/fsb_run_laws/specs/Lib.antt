pub mod Brought
pub mod Reaches
pub mod RunStates
pub mod RunSteps
