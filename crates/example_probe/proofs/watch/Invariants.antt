use Rattle.std.proofs.Common.{◌≡◌, ◌≤◌, ◌-◌, length}
use Rattle.fsb_core.specs.Benches.{bench_view}
use Rattle.fsb_probe.specs.Weights.{total_weight}
use Rattle.example_probe.specs.Responses.{response_weight}
use Rattle.example_probe.proofs.watch.Given as goal

-- the probe counted the responses of the trace so far, of which each sample has at most one
abbrev pub invariant-loop-bench : goal.invariant-loop-bench
invariant-loop-bench g l = record {
  counted : l.probe.responses ≡ total_weight response_weight (bench_view l.bench).run.trace;
  few : l.probe.responses ≤ length (bench_view l.bench).run.trace;
}

abbrev pub decreases-loop-bench : goal.decreases-loop-bench
decreases-loop-bench g l = (bench_view l.bench).run.plan.clocks - length (bench_view l.bench).run.trace
