use Rattle.fsb_agent_run.proofs.OwedApart.{owed-few}
use Rattle.fsb_agent_run.proofs.requests.agents_owe_few.Goals as goal

pub returns : goal.returns
returns c = λ r a n h. owed-few r a n h
