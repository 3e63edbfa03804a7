pub mod Findings
pub mod Hints
pub mod Parts
pub mod Places
pub mod Reports
pub mod Texts
