pub mod Ends
pub mod Named
pub mod Parts
pub mod Performing
pub mod Viewing
