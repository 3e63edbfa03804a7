pub mod LinkFacts
pub mod StateFacts
pub mod Order
pub mod OrderHits
pub mod OrderSnoops
pub mod OrderEnds
pub mod Values
pub mod ValueSnoops
pub mod ValueEnds
pub mod Theorem
pub mod Since
pub mod WitnessRuns
pub mod Flat
pub mod NeededRuns
mod WorkedSteps
pub mod Interface
