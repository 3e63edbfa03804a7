pub mod Over
pub mod Recent
