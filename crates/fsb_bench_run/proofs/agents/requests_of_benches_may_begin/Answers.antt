use Rattle.fsb_bench_view.specs.BenchSteps.{step_entries}
use Rattle.fsb_bench_run.proofs.LogsNow.{reaches-step}
use Rattle.fsb_bench_run.proofs.StartsMay.{start-may}
use Rattle.fsb_bench_run.proofs.StepEntries.{step-with}
use Rattle.fsb_bench_run.proofs.agents.requests_of_benches_may_begin.Goals as goal

pub returns : goal.returns
returns c v hold choice starting b e =
    let k = step-with v hold choice b in
    start-may v hold choice (step_entries v hold) starting k (reaches-step v hold choice b) e
