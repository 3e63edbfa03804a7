-- How a run goes on, by any number of clocks.
use Rattle.std.specs.Prelude.{◌≡◌, nat_le, Bool, List, ◌++◌, length, IsTrue}
use Rattle.std.specs.List.{list_all}
use Rattle.fsb_access.specs.declared.log.Done.{Done}
use Rattle.fsb_hazard.specs.declared.choice.Choice.{Choice}
use Rattle.fsb_signal.specs.declared.sample.Sample.{Sample}
use Rattle.fsb_timely.specs.Runs.{Run}

-- the first run is a beginning of the second: they have one plan, and the second has the samples,
-- holds, choices and entries of the first and maybe more; no entry that comes is of a clock that
-- the first one has
pub record IsBeginning (r s : Run) : Type 0 where
  pub samples : List Sample
  pub holds : List Bool
  pub choices : List Choice
  pub entries : List Done
  pub same_plan : s.plan ≡ r.plan
  pub more_trace : s.trace ≡ r.trace ++ samples
  pub more_holds : s.holds ≡ r.holds ++ holds
  pub more_choices : s.choices ≡ r.choices ++ choices
  pub more_log : s.log ≡ r.log ++ entries
  pub later : IsTrue (list_all (λ done. nat_le (length r.trace) done.clock) entries)
