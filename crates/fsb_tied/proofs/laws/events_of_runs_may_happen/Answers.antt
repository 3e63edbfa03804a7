use Rattle.fsb_tied.proofs.TiedRuns.{events-may-happen, tied-through}
use Rattle.fsb_tied.proofs.laws.events_of_runs_may_happen.Goals as goal

pub returns-clause-before : goal.returns-clause-before
returns-clause-before c = events-may-happen

pub returns-clause-through : goal.returns-clause-through
returns-clause-through c = tied-through
