use Rattle.fsb_lawful.proofs.Accepted.{accepted, each-clock}
use Rattle.fsb_lawful.proofs.laws.timely_runs_are_accepted.Goals as goal

pub returns-clause-whole : goal.returns-clause-whole
returns-clause-whole c = accepted

pub returns-clause-clock : goal.returns-clause-clock
returns-clause-clock c = each-clock
