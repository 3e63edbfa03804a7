-- A bench that stands for its run may take its next clock.
use Rattle.fsb_bench_run.proofs.Words
use Words.{Bool, Choice, step_entries, BenchView, is_named_line, MayStep, IsBenchOf}
use Rattle.fsb_bench_run.proofs.CancelMay.{cancel-may}
use Rattle.fsb_bench_run.proofs.EndMay.{end-may}
use Rattle.fsb_bench_run.proofs.LogsNow.{reaches-step}
use Rattle.fsb_bench_run.proofs.SampleSpaced.{may-sample}
use Rattle.fsb_bench_run.proofs.SnoopMay.{snoop-taken}
use Rattle.fsb_bench_run.proofs.StartsMay.{start-may}
use Rattle.fsb_bench_run.proofs.StepEntries.{step-with}
use Rattle.fsb_bench_run.proofs.WordsLawful.{words-lawful}

-- what is chosen for the request that begins is nothing to it
pub may-go : (v : BenchView) (hold : Bool) (choice : Choice) → IsBenchOf v
    → MayStep (is_named_line v.run.plan.scripts) v hold
may-go v hold choice b = record {
  flight = b.flight;
  words = words-lawful v b;
  sample = may-sample v hold b;
  hears = record {
    starts = λ starting e.
        start-may v hold choice (step_entries v hold) starting (step-with v hold choice b)
        (reaches-step v hold choice b) e;
    cancels = λ entry e. cancel-may v hold choice entry b e;
    snoops = λ s e. snoop-taken v hold choice s b e;
    ends = λ ending e. end-may v hold choice ending b e;
  };
}
