pub mod Headline
pub mod PhaseRules
pub mod PrintedLogs
pub mod Refusals
pub mod FileStatuses
