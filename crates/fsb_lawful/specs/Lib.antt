pub mod Keeps
pub mod Beginning
pub mod Premises
pub mod Owed
