pub mod Endings
pub mod VerdictText
pub mod Grounds
