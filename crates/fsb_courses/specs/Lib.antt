pub mod Courses
pub mod Turns
pub mod Coherent
pub mod Machine
pub mod Answers
pub mod Runs
