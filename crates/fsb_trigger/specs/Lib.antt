pub mod AskedLines
pub mod TriggerSteps
pub mod Match
pub mod Grammar
pub mod Hunt
