pub mod Buses
pub mod LogRoom
pub mod Releases
pub mod ListedLines
