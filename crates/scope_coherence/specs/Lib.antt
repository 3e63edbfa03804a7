pub mod Found
pub mod Cohering
pub mod Parting
pub mod Answers
