use Rattle.fsb_phase_run.proofs.KeptTurns.{write-back-kept}
use Rattle.fsb_phase_run.proofs.TakenTurns.{outcome-settled, turn-same}
use Rattle.fsb_phase_run.proofs.moments.turns_are_taken.Goals as goal

pub returns-clause-same : goal.returns-clause-same
returns-clause-same c = turn-same

pub returns-clause-outcome : goal.returns-clause-outcome
returns-clause-outcome c = outcome-settled

pub returns-clause-kept : goal.returns-clause-kept
returns-clause-kept c = write-back-kept
