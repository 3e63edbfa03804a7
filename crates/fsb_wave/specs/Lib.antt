pub mod WaveText
pub mod Wave
pub mod Law
