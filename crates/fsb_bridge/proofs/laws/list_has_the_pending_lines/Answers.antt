use Rattle.fsb_bridge.proofs.Pending.{is_waited_for-StandsFor}
use Rattle.fsb_bridge.proofs.laws.list_has_the_pending_lines.Goals as goal

pub returns : goal.returns
returns c = is_waited_for-StandsFor
