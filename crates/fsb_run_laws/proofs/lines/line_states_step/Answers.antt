use Rattle.fsb_run_laws.proofs.LineStates.{lost-evicted, lost-taken, lost-written, state-by-hits, state-by-stores}
use Rattle.fsb_run_laws.proofs.LineStates.{state-lost, state-named, state-same}
use Rattle.fsb_run_laws.proofs.GrantedStates.{state-granted}
use Rattle.fsb_run_laws.proofs.lines.line_states_step.Goals as goal

pub returns-clause-hits : goal.returns-clause-hits
returns-clause-hits c = state-by-hits

pub returns-clause-stores : goal.returns-clause-stores
returns-clause-stores c = state-by-stores

pub returns-clause-granted : goal.returns-clause-granted
returns-clause-granted c = state-granted

pub returns-clause-evicted : goal.returns-clause-evicted
returns-clause-evicted c = λ p a line n f t. state-lost p a line n f (lost-evicted p a line n t)

pub returns-clause-written_back : goal.returns-clause-written_back
returns-clause-written_back c = λ p a line n f t. state-lost p a line n f (lost-written p a line n t)

pub returns-clause-taken_away : goal.returns-clause-taken_away
returns-clause-taken_away c = λ p a line n f t. state-lost p a line n f (lost-taken p a line n t)

pub returns-clause-read : goal.returns-clause-read
returns-clause-read c = state-named

pub returns-clause-kept : goal.returns-clause-kept
returns-clause-kept c = state-same
