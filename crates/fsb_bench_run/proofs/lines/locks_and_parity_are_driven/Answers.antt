use Rattle.fsb_bench_view.specs.BenchSteps.{step_entries}
use Rattle.fsb_bench_run.proofs.LockNow.{lock-driven-now}
use Rattle.fsb_bench_run.proofs.ParityNow.{parity-now}
use Rattle.fsb_bench_run.proofs.StepEntries.{step-with}
use Rattle.fsb_bench_run.proofs.lines.locks_and_parity_are_driven.Goals as goal

pub returns-clause-lock : goal.returns-clause-lock
returns-clause-lock c v hold choice b = lock-driven-now v hold choice (step_entries v hold) (step-with v hold choice b)

pub returns-clause-parity : goal.returns-clause-parity
returns-clause-parity c v hold choice b = parity-now v hold choice (step_entries v hold) (step-with v hold choice b)
