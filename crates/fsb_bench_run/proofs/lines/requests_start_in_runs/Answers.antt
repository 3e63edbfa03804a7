use Rattle.fsb_bench_view.specs.BenchSteps.{step_entries}
use Rattle.fsb_bench_run.proofs.StartsNow.{starts-now}
use Rattle.fsb_bench_run.proofs.StepEntries.{step-with}
use Rattle.fsb_bench_run.proofs.lines.requests_start_in_runs.Goals as goal

pub returns : goal.returns
returns c v hold choice b = starts-now v hold choice (step_entries v hold) (step-with v hold choice b)
