pub mod Stepping
pub mod Benches
pub mod BareBenches
