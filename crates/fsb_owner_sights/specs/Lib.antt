pub mod Agents
pub mod Ends
