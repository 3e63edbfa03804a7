pub mod LineBytes
pub mod Places
pub mod SetMaps
pub mod Interface
