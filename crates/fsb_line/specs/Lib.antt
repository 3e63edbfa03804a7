pub mod States
pub mod Links
pub mod Line
pub mod Events
pub mod Coherence
pub mod LineRuns
pub mod History
pub mod Witness
