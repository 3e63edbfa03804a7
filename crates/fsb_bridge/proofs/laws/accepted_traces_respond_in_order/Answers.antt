use Rattle.fsb_bridge.proofs.Responses.{RespondsInOrder-accepted}
use Rattle.fsb_bridge.proofs.laws.accepted_traces_respond_in_order.Goals as goal

pub returns : goal.returns
returns c = RespondsInOrder-accepted
