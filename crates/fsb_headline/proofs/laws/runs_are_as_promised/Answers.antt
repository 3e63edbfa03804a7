use Rattle.std.proofs.Common.{Some, subst, sym}
use Rattle.fsb_calls.specs.Calls.{held, printed, printed_before}
use Rattle.fsb_top.specs.Printed.{run_dump, run_log}
use Rattle.fsb_calls.specs.StatusSays.{HasRun}
use Rattle.fsb_top.specs.BenchEnds.{IsDumped, IsLogged}
use Rattle.fsb_headline.proofs.FromRuns.{headline}
use Rattle.fsb_headline.proofs.laws.runs_are_as_promised.Goals as goal

pub returns : goal.returns
returns g c call ends tells prints dumps bench name e done =
    headline _ (held call) (printed_before call) (printed call) (g.D.Sink.holds call.last) _ _
    (λ plan is. (is tells).is_bench)
    (λ r leaves. (
      subst (λ s. IsLogged s (run_log r) (printed_before call) (printed call)) done (leaves.0 prints),
      (subst (λ s. IsDumped s (run_dump r) (Some name) (g.D.Sink.holds call.first) (g.D.Sink.begun_as call.first)
          (g.D.Sink.holds call.last) (g.D.Sink.begun_as call.last)) done (leaves.1 dumps)).whole,
    ))
    (c.runs_leave_log_and_dump.ensures.ran call ends bench (Some name) e (subst HasRun (sym done) tt))
