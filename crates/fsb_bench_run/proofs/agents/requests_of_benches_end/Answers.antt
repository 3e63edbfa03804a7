use Rattle.fsb_bench_view.specs.BenchSteps.{step_entries}
use Rattle.fsb_bench_run.proofs.EndCases.{ending-heard, ending-nothing}
use Rattle.fsb_bench_run.proofs.LogsNow.{reaches-step}
use Rattle.fsb_bench_run.proofs.StepEntries.{step-with}
use Rattle.fsb_bench_run.proofs.agents.requests_of_benches_end.Goals as goal

pub returns-clause-ends : goal.returns-clause-ends
returns-clause-ends c v hold choice ending b e kept =
    let k = step-with v hold choice b in
    ending-heard v hold choice (step_entries v hold) ending k (reaches-step v hold choice b) e kept

pub returns-clause-nothing : goal.returns-clause-nothing
returns-clause-nothing c v hold choice a b e =
    let k = step-with v hold choice b in
    ending-nothing v hold choice (step_entries v hold) a k (reaches-step v hold choice b) e
