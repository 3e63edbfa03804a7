use Rattle.fsb_bridge_run.proofs.ToldLists.{finds, leaves-list}
use Rattle.fsb_bridge_run.proofs.laws.clocks_change_the_deferrals.Goals as goal

pub returns-clause-found : goal.returns-clause-found
returns-clause-found c = finds

pub returns-clause-left : goal.returns-clause-left
returns-clause-left c = leaves-list
