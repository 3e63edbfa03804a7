pub mod AskedObjects
pub mod FoundEntries
pub mod HeldClocks
pub mod JoinLaws
pub mod LoadedObjects
pub mod WorkedSeeds
pub mod Interface
