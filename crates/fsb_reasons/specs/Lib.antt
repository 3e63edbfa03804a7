pub mod RuleOf
pub mod Holds
