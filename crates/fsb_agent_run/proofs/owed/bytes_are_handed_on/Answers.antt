use Rattle.fsb_agent_run.proofs.BytesHandedOn.{hand-there, handed-owed, kept-at-response}
use Rattle.fsb_agent_run.proofs.FewOwed.{within}
use Rattle.fsb_agent_run.proofs.owed.bytes_are_handed_on.Goals as goal
use Rattle.fsb_timely.specs.Runs.{past_of}

pub returns-clause-there : goal.returns-clause-there
returns-clause-there c = λ r a d q v h e gives k. hand-there r a d q v h.timely h.bounds (within r d h.long) e gives k

pub returns-clause-handed : goal.returns-clause-handed
returns-clause-handed c = λ r a d q v h e gives k. handed-owed r a d q v h.timely h.bounds (within r d h.long) e gives k

pub returns-clause-kept : goal.returns-clause-kept
returns-clause-kept c = λ r a d v h none k. kept-at-response (past_of r) a d v none k
