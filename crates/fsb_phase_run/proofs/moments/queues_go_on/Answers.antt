use Rattle.fsb_phase_run.proofs.QueueGoesOn.{queue-goes-on}
use Rattle.fsb_phase_run.proofs.moments.queues_go_on.Goals as goal

pub returns : goal.returns
returns c = queue-goes-on
