pub mod Sets
pub mod LineValues
