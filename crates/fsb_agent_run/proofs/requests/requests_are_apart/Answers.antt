use Rattle.fsb_agent_run.proofs.OwedApart.{owed-apart, sent-apart}
use Rattle.fsb_agent_run.proofs.requests.requests_are_apart.Goals as goal

pub returns-clause-owed : goal.returns-clause-owed
returns-clause-owed c = λ r a n h. owed-apart r a n h

pub returns-clause-sent : goal.returns-clause-sent
returns-clause-sent c = λ r a n h. sent-apart r a n h
