pub mod Finding
pub mod Interface
