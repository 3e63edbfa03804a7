use Rattle.fsb_agent_run.proofs.FirstOwed.{first-owed}
use Rattle.fsb_agent_run.proofs.OwedSnoops.{owed-same}
use Rattle.fsb_agent_run.proofs.owed.agents_begin_owing_no_bytes.Goals as goal

pub returns-clause-first : goal.returns-clause-first
returns-clause-first c = λ p a. first-owed p a

pub returns-clause-same : goal.returns-clause-same
returns-clause-same c = λ p a n r d v w e h. owed-same p a n r d v w e h
