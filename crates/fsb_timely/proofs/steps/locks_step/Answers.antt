use Rattle.fsb_timely.proofs.LockSteps.{keeps_lock-more, is_locked_request-same}
use Rattle.fsb_timely.proofs.steps.locks_step.Goals as goal

pub returns-clause-kept : goal.returns-clause-kept
returns-clause-kept c = keeps_lock-more

pub returns-clause-request : goal.returns-clause-request
returns-clause-request c = is_locked_request-same
