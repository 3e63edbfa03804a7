use Rattle.fsb_lawful.proofs.Beginnings.{keeps-2, keeps-4, keeps-5, keeps-6}
use Rattle.fsb_lawful.proofs.laws.requests_begin_lawfully.Goals as goal

pub returns-clause-spacing : goal.returns-clause-spacing
returns-clause-spacing c = keeps-2

pub returns-clause-queue_depth : goal.returns-clause-queue_depth
returns-clause-queue_depth c = keeps-4

pub returns-clause-unblocked : goal.returns-clause-unblocked
returns-clause-unblocked c = keeps-5

pub returns-clause-winner : goal.returns-clause-winner
returns-clause-winner c = keeps-6
