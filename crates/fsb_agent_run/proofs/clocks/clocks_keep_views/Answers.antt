use Rattle.fsb_agent_run.proofs.ClockEvents.{clock-view}
use Rattle.fsb_agent_run.proofs.clocks.clocks_keep_views.Goals as goal

pub returns : goal.returns
returns c = λ r a d bytes v h some few view. clock-view r a d bytes v h some few view
