pub mod Histories
pub mod Findings
pub mod Standing
