pub mod AskedMore
pub mod LinesAhead
pub mod LogLength
pub mod NoParity
pub mod Summary
