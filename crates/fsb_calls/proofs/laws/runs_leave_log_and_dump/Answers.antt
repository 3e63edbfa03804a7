use Rattle.fsb_calls.proofs.Promises.{promised}
use Rattle.fsb_calls.proofs.laws.runs_leave_log_and_dump.Goals as goal

pub returns-clause-ran : goal.returns-clause-ran
returns-clause-ran g c = λ call ends. (promised call ends).ran

pub returns-clause-generated : goal.returns-clause-generated
returns-clause-generated g c = λ call ends. (promised call ends).generated
