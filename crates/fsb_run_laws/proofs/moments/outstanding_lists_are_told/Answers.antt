use Rattle.fsb_run_laws.proofs.OwedRequests.{owed-told}
use Rattle.fsb_run_laws.proofs.moments.outstanding_lists_are_told.Goals as goal

pub returns : goal.returns
returns c = owed-told
