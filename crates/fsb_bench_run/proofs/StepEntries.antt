-- The run with one more clock of a bench, with the entries of the bench.
use Rattle.fsb_bench_run.proofs.Words
use Words.{Bool, Choice, step_entries, BenchView, IsBenchOf}
use Rattle.fsb_bench_run.proofs.FirstEntries.{bench-hits}
use Rattle.fsb_bench_run.proofs.NextRun.{grows-to}
use Rattle.fsb_bench_run.proofs.StepWith.{IsStepWith}

pub step-with : (v : BenchView) (hold : Bool) (choice : Choice) → IsBenchOf v
    → IsStepWith v hold choice (step_entries v hold)
step-with v hold choice b = record { bench = b; grows = grows-to v hold choice b; hits = bench-hits v hold choice b }
