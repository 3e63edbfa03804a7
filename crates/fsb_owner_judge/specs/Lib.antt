pub mod Sights
pub mod Lines
pub mod Verdicts
pub mod Judge
