pub mod Best
pub mod SamePaths
pub mod FoundLines
