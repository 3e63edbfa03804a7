use Rattle.fsb_timely_laws.proofs.Whole.{carried-whole, timely-order, timely-whole}
use Rattle.fsb_timely_laws.proofs.timely_runs_are_timely_as_a_whole.Goals as goal

pub returns-clause-timely : goal.returns-clause-timely
returns-clause-timely c = timely-whole

pub returns-clause-order : goal.returns-clause-order
returns-clause-order c = timely-order

pub returns-clause-carried : goal.returns-clause-carried
returns-clause-carried c = carried-whole
