use Rattle.fsb_bridge.proofs.Due.{due_deferral-StandsFor}
use Rattle.fsb_bridge.proofs.laws.list_has_the_due_deferral.Goals as goal

pub returns : goal.returns
returns c = due_deferral-StandsFor
