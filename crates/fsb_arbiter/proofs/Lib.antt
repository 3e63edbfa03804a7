pub mod Winners
pub mod History
