-- The run with one more clock of a bench is timely, where its log has the completions of the clock.
use Rattle.fsb_bench_run.proofs.Words
use Words.{◌≡◌, Bool, true, List, [], ◌∷◌, ◌++◌, refl, arith, list_all, and_from, Done, Choice, Sample, is_known}
use Words.{is_known_trace, logs_completions, IsTimelyAt, Timely, holds_at, timely-more, step_sample, BenchView}
use Words.{next_clock_of}
use Rattle.fsb_bench_run.proofs.AgentsNow.{agents-answer}
use Rattle.fsb_bench_run.proofs.AskedNow.{shows-now}
use Rattle.fsb_bench_run.proofs.AsksNow.{request-lines-now}
use Rattle.fsb_bench_run.proofs.DeferralsNow.{deferrals-now}
use Rattle.fsb_bench_run.proofs.HazardsDriven.{drives-hazards}
use Rattle.fsb_bench_run.proofs.LockNow.{lock-driven-now}
use Rattle.fsb_bench_run.proofs.ParityNow.{parity-now}
use Rattle.fsb_bench_run.proofs.ResponsesDriven.{drives-responses}
use Rattle.fsb_bench_run.proofs.RunWith.{run_with}
use Rattle.fsb_bench_run.proofs.SnoopResult.{snoop-result}
use Rattle.fsb_bench_run.proofs.StartsNow.{starts-now}
use Rattle.fsb_bench_run.proofs.StepWith.{IsStepWith}

-- nothing is unknown in a known trace with one more known sample
known-more : (w : List Sample) (x : Sample) → list_all is_known w ≡ true → is_known x ≡ true
    → list_all is_known (w ++ x ∷ []) ≡ true
known-more [] x e f = and_from (is_known x) true f refl
known-more (y ∷ w) x e f = grind (arith, known-more w x)

-- nor in the sample of a bench's clock
known-sample : (v : BenchView) (hold : Bool) → is_known (step_sample v hold) ≡ true
known-sample v hold = refl

pub known-next : (v : BenchView) (hold : Bool) (choice : Choice) (entries : List Done)
    → IsStepWith v hold choice entries
    → is_known_trace (run_with v hold choice entries).trace ≡ true
known-next v hold choice entries b =
    known-more v.run.trace (step_sample v hold) b.bench.timely.known (known-sample v hold)

-- the eight parts of the clock
pub timely-at : (v : BenchView) (hold : Bool) (choice : Choice) (entries : List Done) → IsStepWith v hold choice entries
    → holds_at logs_completions (run_with v hold choice entries) (next_clock_of v) ≡ true
    → IsTimelyAt (run_with v hold choice entries) (next_clock_of v)
timely-at v hold choice entries b logged =
    let told = deferrals-now v hold choice entries b.bench b.grows (shows-now v hold choice entries b) in
    record {
      request_starts = starts-now v hold choice entries b;
      request_lines = request-lines-now v hold choice entries b;
      hazard_lines = drives-hazards v hold choice entries b.bench told b.grows;
      snoop_results = snoop-result v hold choice entries b.bench told (agents-answer v hold choice entries b) b.grows;
      responses_and_data = drives-responses v hold choice entries b.grows b.bench.requests;
      completions = logged;
      bus_lock = lock-driven-now v hold choice entries b;
      parity = parity-now v hold choice entries b;
    }

-- so the longer run is timely
pub timely-next : (v : BenchView) (hold : Bool) (choice : Choice) (entries : List Done)
    → IsStepWith v hold choice entries
    → holds_at logs_completions (run_with v hold choice entries) (next_clock_of v) ≡ true
    → Timely (run_with v hold choice entries)
timely-next v hold choice entries b logged =
    timely-more v.run (run_with v hold choice entries) b.bench.timely b.grows.next b.grows.whole
    (known-next v hold choice entries b) (timely-at v hold choice entries b logged)
