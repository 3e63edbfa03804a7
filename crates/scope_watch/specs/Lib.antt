pub mod Stops
pub mod Prefaces
pub mod Heading
pub mod Buses
pub mod Limit
pub mod Watching
pub mod Checking
