use Rattle.std.proofs.Common.{◌-◌, length}
use Rattle.fsb_core.specs.Benches.{bench_view}
use Rattle.example_cache.proofs.compare.Given as goal

abbrev pub decreases-loop-bench : goal.decreases-loop-bench
decreases-loop-bench g l = (bench_view l.bench).run.plan.clocks - length (bench_view l.bench).run.trace
