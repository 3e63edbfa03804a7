pub mod QueueStep
pub mod ListSteps
pub mod Taken
pub mod Numbers
pub mod DrivenRows
pub mod Interface
