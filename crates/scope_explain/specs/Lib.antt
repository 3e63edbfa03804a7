pub mod Requests
pub mod Reasons
pub mod Explained
pub mod Standing
pub mod Explanations
