pub mod Usual
pub mod Taking
pub mod Alike
pub mod Finding
