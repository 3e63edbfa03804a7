use Rattle.fsb_run_laws.proofs.OwedRequests.{owed-step}
use Rattle.fsb_run_laws.proofs.BegunIds.{begun-wanted}
use Rattle.fsb_run_laws.proofs.StillOwed.{owed-stays}
use Rattle.fsb_run_laws.proofs.moments.outstanding_lists_step.Goals as goal

pub returns-clause-list : goal.returns-clause-list
returns-clause-list c = owed-step

pub returns-clause-begun : goal.returns-clause-begun
returns-clause-begun c = begun-wanted

pub returns-clause-told : goal.returns-clause-told
returns-clause-told c = owed-stays
