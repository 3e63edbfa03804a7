use Rattle.fsb_bench_view.specs.BenchSteps.{step_entries}
use Rattle.fsb_bench_run.proofs.NextRun.{grows-to}
use Rattle.fsb_bench_run.proofs.ResponsesDriven.{drives-responses}
use Rattle.fsb_bench_run.proofs.responses.responses_are_driven.Goals as goal

pub returns : goal.returns
returns c = λ v hold choice b. drives-responses v hold choice (step_entries v hold) (grows-to v hold choice b)
    b.requests
