use Rattle.fsb_tied.proofs.OwnedRuns.{alone-in-run, dirty-in-run, pending-in-run}
use Rattle.fsb_tied.proofs.laws.lines_have_one_owner.Goals as goal

pub returns-clause-alone : goal.returns-clause-alone
returns-clause-alone c = alone-in-run

pub returns-clause-dirty : goal.returns-clause-dirty
returns-clause-dirty c = dirty-in-run

pub returns-clause-pending : goal.returns-clause-pending
returns-clause-pending c = pending-in-run
