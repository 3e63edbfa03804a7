use Rattle.fsb_bridge_run.proofs.ListWords.{begun-listed}
use Rattle.fsb_bridge_run.proofs.PriorityReplies.{reply-request, reply-shown}
use Rattle.fsb_bridge_run.proofs.laws.replies_begin_as_due.Goals as goal

pub returns-clause-due : goal.returns-clause-due
returns-clause-due c = begun-listed

pub returns-clause-shown : goal.returns-clause-shown
returns-clause-shown c = reply-shown

pub returns-clause-requests : goal.returns-clause-requests
returns-clause-requests c = reply-request
