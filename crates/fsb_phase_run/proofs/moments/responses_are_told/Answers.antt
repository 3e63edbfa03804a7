use Rattle.fsb_phase_run.proofs.RespondedNow.{responded-now, retried-now}
use Rattle.fsb_phase_run.proofs.RespondsNow.{code-shown}
use Rattle.fsb_phase_run.proofs.moments.responses_are_told.Goals as goal

pub returns-clause-responded : goal.returns-clause-responded
returns-clause-responded c = λ r s queue grows f e. responded-now r s queue grows f (code-shown r s queue grows f e)

pub returns-clause-retried : goal.returns-clause-retried
returns-clause-retried c = λ r s queue grows f e. retried-now r s queue grows f (code-shown r s queue grows f e)
