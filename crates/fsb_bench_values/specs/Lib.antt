pub mod BytesOf
pub mod Lent
pub use Rattle.fsb_bench_run.specs.BenchOf
