pub mod Asking
pub mod Choice
pub mod Entry
pub mod Found
pub mod Seed
pub mod Told
