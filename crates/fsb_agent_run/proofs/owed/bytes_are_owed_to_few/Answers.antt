use Rattle.fsb_agent_run.proofs.FewOwed.{most-owed, owed-before, within}
use Rattle.fsb_agent_run.proofs.owed.bytes_are_owed_to_few.Goals as goal

pub returns-clause-before : goal.returns-clause-before
returns-clause-before c = λ r a d s h there. owed-before r a d s h.timely h.bounds (within r d h.long) there

pub returns-clause-most : goal.returns-clause-most
returns-clause-most c = λ r a n h. most-owed r a n h.timely h.bounds h.long
