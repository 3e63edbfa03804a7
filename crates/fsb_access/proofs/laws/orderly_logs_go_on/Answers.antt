use Rattle.fsb_access.proofs.OrderLaws.{InOrder-empty, InOrder-next}
use Rattle.fsb_access.proofs.laws.orderly_logs_go_on.Goals as goal

pub returns-clause-empty : goal.returns-clause-empty
returns-clause-empty c = InOrder-empty

pub returns-clause-next : goal.returns-clause-next
returns-clause-next c = InOrder-next
