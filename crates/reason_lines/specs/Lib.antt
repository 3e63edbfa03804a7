pub mod Named
pub mod LinesOf
