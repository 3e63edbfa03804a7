pub mod ByteLaws
pub mod Chunks
pub mod OrderLaws
pub mod ReplayLaws
pub mod WorkedLogs
pub mod Interface
