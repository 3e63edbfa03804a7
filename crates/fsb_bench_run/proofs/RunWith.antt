-- The run with one more clock of a bench, where these entries are logged there.
use Rattle.fsb_bench_run.proofs.Words
use Words.{Bool, List, [], ◌∷◌, ◌++◌, option_map_or, Done, Choice, Run, step_decided, step_sample, BenchView}

-- the run with one more clock, whatever entries are logged there: with those of the step it is the run of the step
abbrev pub run_with : BenchView → Bool → Choice → List Done → Run
run_with v hold choice entries = record {
  plan = v.run.plan;
  choices = v.run.choices ++ option_map_or (λ starting. choice ∷ []) (step_decided v hold).starting [];
  holds = v.run.holds ++ hold ∷ [];
  trace = v.run.trace ++ step_sample v hold ∷ [];
  log = v.run.log ++ entries;
}
