-- A run of a plan, from its first clock to its last.
use Rattle.std.specs.Prelude.{◌≡◌, List, Option, None, length}
use Rattle.fsb_hazard.specs.Told.{Told}
use Rattle.fsb_script.specs.Plans.{PlanView}
use Rattle.fsb_signal.specs.DumpText.{dump_text}
use Rattle.fsb_signal.specs.Parity.{marks_in}
use Rattle.fsb_timely.specs.Asked.{Asked}
use Rattle.fsb_timely.specs.Runs.{Run}
use Rattle.fsb_timely.specs.Simulated.{Simulated}
use Rattle.fsb_trace.specs.Verdict.{verdict}
use Rattle.vcd_grammar.specs.Reading.{Reads}

-- this is a run of the plan, from its first clock to its last, where hazard objects stand that tell this: its choices and
-- holds are what they answered, it is a simulation, it breaks no phase rule, and its dump reads back to its trace, with
-- the marks of the plan's profile
pub record IsRunOf (told : List (Option Told)) (plan : PlanView) (r : Run) : Type 0 where
  pub of_plan : r.plan ≡ plan
  pub whole : length r.trace ≡ plan.clocks
  pub asked : Asked told r.choices r.holds
  pub simulated : Simulated r
  pub accepted : verdict (marks_in plan.profile) r.trace ≡ None
  pub reads_back : Reads (dump_text plan.profile r.trace) (marks_in plan.profile) r.trace
