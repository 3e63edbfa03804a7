pub mod LineMaps
pub mod SetLines
pub mod StartLines
