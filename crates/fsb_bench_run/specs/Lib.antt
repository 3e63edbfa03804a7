pub mod BenchOf
pub mod LocksHeld
pub mod HitsTold
pub mod BenchPlans
