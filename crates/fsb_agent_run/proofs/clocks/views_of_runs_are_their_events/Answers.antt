use Rattle.fsb_agent_run.proofs.ClockEvents.{clocks-view}
use Rattle.fsb_agent_run.proofs.clocks.views_of_runs_are_their_events.Goals as goal

pub returns : goal.returns
returns c = λ r a n bytes h some few. clocks-view r a n bytes h some few
