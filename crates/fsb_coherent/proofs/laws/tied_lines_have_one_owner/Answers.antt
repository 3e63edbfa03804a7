use Rattle.fsb_coherent.proofs.CoherentRuns.{only_holder, pending_shared}
use Rattle.fsb_coherent.proofs.laws.tied_lines_have_one_owner.Goals as goal

pub returns-clause-alone : goal.returns-clause-alone
returns-clause-alone c = only_holder

pub returns-clause-pending : goal.returns-clause-pending
returns-clause-pending c = pending_shared
