use Rattle.fsb_bridge_run.proofs.ListWords.{any-listed, due-listed, would-listed}
use Rattle.fsb_bridge_run.proofs.laws.due_replies_are_those_of_the_list.Goals as goal

pub returns-clause-number : goal.returns-clause-number
returns-clause-number c = due-listed

pub returns-clause-any : goal.returns-clause-any
returns-clause-any c = any-listed

pub returns-clause-would : goal.returns-clause-would
returns-clause-would c = would-listed
