use Rattle.fsb_bridge_run.proofs.ListWords.{ids-below, responds-in-order}
use Rattle.fsb_bridge_run.proofs.laws.runs_have_what_the_list_needs.Goals as goal

pub returns-clause-order : goal.returns-clause-order
returns-clause-order c = responds-in-order

pub returns-clause-ids : goal.returns-clause-ids
returns-clause-ids c = ids-below
