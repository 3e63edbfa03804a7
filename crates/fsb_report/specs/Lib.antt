pub mod LogText
pub mod RequestCounts
pub mod SummaryText
pub mod VerdictText
