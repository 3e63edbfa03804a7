use Rattle.fsb_bridge_run.proofs.GrownWords.{grown-any, grown-choice, grown-due, grown-finds, grown-hit, grown-pending}
use Rattle.fsb_bridge_run.proofs.GrownWords.{grown-room, grown-taken, grown-there, grown-would}
use Rattle.fsb_bridge_run.proofs.laws.growing_runs_have_the_deferrals.Goals as goal

pub returns-clause-found : goal.returns-clause-found
returns-clause-found c = grown-finds

pub returns-clause-pending : goal.returns-clause-pending
returns-clause-pending c = grown-pending

pub returns-clause-choice : goal.returns-clause-choice
returns-clause-choice c = grown-choice

pub returns-clause-number : goal.returns-clause-number
returns-clause-number c = grown-due

pub returns-clause-any : goal.returns-clause-any
returns-clause-any c = grown-any

pub returns-clause-would : goal.returns-clause-would
returns-clause-would c = grown-would

pub returns-clause-deferral : goal.returns-clause-deferral
returns-clause-deferral c = grown-taken

pub returns-clause-hit : goal.returns-clause-hit
returns-clause-hit c = grown-hit

pub returns-clause-room : goal.returns-clause-room
returns-clause-room c = grown-room

pub returns-clause-taken : goal.returns-clause-taken
returns-clause-taken c = grown-there
