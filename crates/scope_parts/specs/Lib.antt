pub mod Plans
pub mod Segments
pub mod Endings
pub mod Holes
pub mod Findings
pub mod Standing
