use Rattle.fsb_agent_run.proofs.LockedWants.{locked-by}
use Rattle.fsb_agent_run.proofs.WantsMade.{want-by}
use Rattle.fsb_agent_run.proofs.laws.wants_go_by_the_run.Goals as goal

pub returns-clause-locked : goal.returns-clause-locked
returns-clause-locked c = λ p a d want v view e. locked-by p a d v want view e

pub returns-clause-wanted : goal.returns-clause-wanted
returns-clause-wanted c = λ p a d v h. want-by p a d v h
