pub mod PlanFacts
pub mod Interface
