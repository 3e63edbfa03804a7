pub mod Bounds
pub mod Parts
pub mod Replies
pub mod Following
pub mod Standing
pub mod Findings
pub mod Parting
