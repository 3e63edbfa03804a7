use Rattle.fsb_clean.proofs.CleanRuns.{clean-runs, nothing-found}
use Rattle.fsb_clean.proofs.laws.simulated_runs_are_clean.Goals as goal

pub returns-clause-clock : goal.returns-clause-clock
returns-clause-clock c = clean-runs

pub returns-clause-audit : goal.returns-clause-audit
returns-clause-audit c = nothing-found
