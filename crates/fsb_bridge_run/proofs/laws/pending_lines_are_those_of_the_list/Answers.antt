use Rattle.fsb_bridge_run.proofs.ListWords.{choice-listed, pending-listed}
use Rattle.fsb_bridge_run.proofs.laws.pending_lines_are_those_of_the_list.Goals as goal

pub returns-clause-pending : goal.returns-clause-pending
returns-clause-pending c = pending-listed

pub returns-clause-choice : goal.returns-clause-choice
returns-clause-choice c = choice-listed
