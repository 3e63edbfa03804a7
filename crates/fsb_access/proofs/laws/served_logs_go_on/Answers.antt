use Rattle.fsb_access.proofs.ReplayLaws.{Served-empty, Served-push, Served-front}
use Rattle.fsb_access.proofs.laws.served_logs_go_on.Goals as goal

pub returns-clause-empty : goal.returns-clause-empty
returns-clause-empty c = Served-empty

pub returns-clause-next : goal.returns-clause-next
returns-clause-next c = Served-push

pub returns-clause-front : goal.returns-clause-front
returns-clause-front c = Served-front
