use Rattle.fsb_bench_view.specs.BenchSteps.{step_entries}
use Rattle.fsb_bench_run.proofs.PairNow.{drives-pair-now}
use Rattle.fsb_bench_run.proofs.StepEntries.{step-with}
use Rattle.fsb_bench_run.proofs.lines.words_are_due.Goals as goal

pub returns : goal.returns
returns c v hold choice b = drives-pair-now v hold choice (step_entries v hold) (step-with v hold choice b)
