pub mod Next
pub mod Snoops
pub mod Data
pub mod Queue
