use Rattle.fsb_agent_run.proofs.BegunWants.{begins-wanted}
use Rattle.fsb_agent_run.proofs.laws.begun_requests_are_wants.Goals as goal

pub returns : goal.returns
returns c = λ r n claim h bounds l e. begins-wanted r n claim h bounds l e
