-- The lemmas of this crate that others draw on; no other name of its proofs is used outside.

-- The first bench of a plan has its bytes.
pub use Rattle.fsb_bench_values.proofs.FirstBytes.{first-bytes, first-carried}
-- A clock of a bench keeps its bytes, and serves its log.
pub use Rattle.fsb_bench_values.proofs.BytesNext.{bench-served, bytes-next}
-- The run of a bench is a simulation, and its caches and its memory are as the run keeps them.
pub use Rattle.fsb_bench_values.proofs.BenchSimulated.{bench-simulated}
pub use Rattle.fsb_bench_values.proofs.LinesKept.{lines-kept}
-- A clock of a bench carries the data that are due.
pub use Rattle.fsb_bench_values.proofs.CarriedNow.{carried-next}
-- The log of a timely run follows its scripts.
pub use Rattle.fsb_bench_values.proofs.LogsInOrder.{log-in-order}
-- Passed on: a bench stands for its run, and goes on.
pub use Rattle.fsb_bench_run.proofs.Interface.{ads-driven, bench-goes-on, entries-now, first-stands, may-go, plan-keeps}
