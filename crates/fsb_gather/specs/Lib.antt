pub mod GatherView
pub mod HandsOn
