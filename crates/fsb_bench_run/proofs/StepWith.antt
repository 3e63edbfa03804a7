-- The run with one more clock of a bench that stands for its run, where some entries are logged there, and the hits
-- are told.
use Rattle.fsb_bench_run.proofs.Words
use Words.{◌≡◌, Bool, List, is_some, ◌∙◌, Done, Choice, ADS, line_at, GrowsTo, step_decided, step_performed, BenchView}
use Words.{next_clock_of, IsBenchOf, HasHitsOf}
use Rattle.fsb_bench_run.proofs.DrivenLines.{ads-driven, line-with}
use Rattle.fsb_bench_run.proofs.RunWith.{run_with}

-- the bench stands for its run, which grows by the clock with these entries, and has the hits of the longer run
pub record IsStepWith (v : BenchView) (hold : Bool) (choice : Choice) (entries : List Done) : Type 0 where
  pub bench : IsBenchOf v
  pub grows : GrowsTo v.run (run_with v hold choice entries)
  pub hits : HasHitsOf v (run_with v hold choice entries)

-- what begins shows on ADS#
pub begins-with : (v : BenchView) (hold : Bool) (choice : Choice) (entries : List Done)
    → line_at ADS (run_with v hold choice entries).trace (next_clock_of v) ≡ is_some (step_decided v hold).starting
begins-with v hold choice entries =
    line-with v hold choice entries ADS
    ∙ ads-driven (step_performed v) (next_clock_of v) v.run.plan.profile (step_decided v hold)
