use Rattle.fsb_bench_view.specs.BenchSteps.{step_entries}
use Rattle.fsb_bench_run.proofs.AsksNow.{request-lines-now}
use Rattle.fsb_bench_run.proofs.StepEntries.{step-with}
use Rattle.fsb_bench_run.proofs.lines.request_lines_are_driven.Goals as goal

pub returns : goal.returns
returns c v hold choice b = request-lines-now v hold choice (step_entries v hold) (step-with v hold choice b)
