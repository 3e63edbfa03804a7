use Rattle.std.proofs.Common.{◌≡◌, ◌-◌, ◌+◌, length}
use Rattle.std.specs.Option.{IfSome}
use Rattle.fsb_core.specs.Benches.{bench_view}
use Rattle.fsb_rules.specs.Checker.{Stands, as_broken}
use Rattle.fsb_signal.specs.Parity.{marks_in}
use Rattle.fsb_trace.specs.Verdict.{verdict}
use Rattle.example_monitor.specs.Received.{received}
use Rattle.example_monitor.proofs.watch.Given as goal

-- the checker was fed what was received of the trace so far, told the verdict on it, and stopped at a broken rule
abbrev pub invariant-loop-bench : goal.invariant-loop-bench
invariant-loop-bench g l =
    let marks = marks_in (bench_view l.bench).run.plan.profile in
    record {
      plan_stays : (bench_view l.bench).run.plan ≡ (bench_view l.initial.bench).run.plan;
      checker : Stands l.checker marks (received l.lost (bench_view l.bench).run.trace);
      broken : l.broken ≡ as_broken (verdict marks (received l.lost (bench_view l.bench).run.trace));
      stops : IfSome l.broken (λ b. length (bench_view l.bench).run.trace ≡ b.clock + 1);
    }

abbrev pub decreases-loop-bench : goal.decreases-loop-bench
decreases-loop-bench g l = (bench_view l.bench).run.plan.clocks - length (bench_view l.bench).run.trace
