pub mod FoundRows
pub mod NextRows
pub mod Happening
pub mod Beginning
