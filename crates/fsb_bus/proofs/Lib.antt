pub mod Told
pub mod LogRooms
pub mod RequestWords
pub mod BusSteps
pub mod NamedLines
pub mod KeptScripts
pub mod Unlocked
pub mod EightBytes
