pub mod Number
pub mod Range
pub mod Form
pub mod Command
pub mod Usage
pub mod Found
