-- One clock of a bench.
use Rattle.std.specs.Prelude.{◌≡◌, ◌<◌, Bool, List, Option, Some, if◌then◌else◌, length}
use Rattle.fsb_hazard.specs.Told.{Told}
use Rattle.fsb_hazard.specs.declared.choice.Choice.{Choice}
use Rattle.fsb_signal.specs.declared.lines.TheConstants.Lines.{ADS}
use Rattle.fsb_signal.specs.Samples.{has_line}
use Rattle.fsb_timely.specs.Asked.{IsChosen, IsHold}
use Rattle.fsb_timely.specs.AskedSteps.{IsAskedStep}
use Rattle.fsb_timely.specs.Growth.{IsNext}
use Rattle.fsb_timely.specs.Runs.{Run}
use Rattle.fsb_bench_view.specs.declared.beginning.Starting.{Starting}
use Rattle.fsb_bench_view.specs.BenchSteps.{bench_stepped, step_decided}
use Rattle.fsb_bench_view.specs.BusViews.{BenchView, next_clock_of}
use Rattle.fsb_bench_view.specs.FirstBench.{is_named_line}
use Rattle.fsb_bench_view.specs.MaySteps.{MayStep}

-- the plan has a clock that the bench has not taken
abbrev pub HasClockLeft : BenchView → Type 0
HasClockLeft v = length v.run.trace < v.run.plan.clocks

-- the bench may take its next clock, whether BNR# is asked for or not
abbrev pub MayGoOn : BenchView → Type 0
MayGoOn v = (hold : Bool) → MayStep (is_named_line v.run.plan.scripts) v hold

-- the bench becomes this one by a clock at which objects stand that tell this: whether BNR# is
-- asked for, and what is chosen for the request that begins, if one does, is what they answer
-- together
pub record IsStepped (told : List (Option Told)) (old new : BenchView) : Type 0 where
  pub hold : Bool
  pub choice : Choice
  pub held : IsHold told (next_clock_of old) hold
  pub chosen : (starting : Starting) → (step_decided old hold).starting ≡ Some starting
      → IsChosen told (length old.run.choices) choice
  pub stepped : new ≡ bench_stepped old hold choice

-- the run becomes this one by a clock, at which it is asked for as objects answer that tell this:
-- it has one sample and one hold more, one choice more exactly where the new sample has ADS#, and
-- entries of that clock
pub record IsAskedNext (told : List (Option Told)) (old new : Run) : Type 0 where
  pub next : IsNext old new
  pub one_choice : length next.choices ≡ (if has_line next.sample ADS then 1 else 0)
  pub asked : IsAskedStep told old new next
