pub mod KeptOnes
pub mod InFlight
pub mod Same
pub mod Taking
pub mod Awaiting
