pub mod LawfulPlans
pub mod LineTexts
