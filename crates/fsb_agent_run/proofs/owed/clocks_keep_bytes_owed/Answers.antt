use Rattle.fsb_agent_run.proofs.ClockOwed.{clock-owed, clocks-owed}
use Rattle.fsb_agent_run.proofs.owed.clocks_keep_bytes_owed.Goals as goal

pub returns-clause-clock : goal.returns-clause-clock
returns-clause-clock c = λ r a d bytes v h some few view owed. clock-owed r a d bytes v h some few view owed

pub returns-clause-below : goal.returns-clause-below
returns-clause-below c = λ r a n bytes h some few. clocks-owed r a n bytes h some few
