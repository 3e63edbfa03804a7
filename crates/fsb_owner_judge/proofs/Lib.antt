pub mod LineSights
pub mod RuleForms
pub mod Walks
pub mod LeastRule
pub mod Judging
pub mod Standing
