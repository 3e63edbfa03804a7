use Rattle.fsb_lawful.proofs.Interface.{accepted, each-clock}
use Rattle.fsb_tied.proofs.WrittenAlone.{writes-back-alone}
use Rattle.fsb_tied.proofs.laws.timely_runs_break_no_rule.Goals as goal

pub returns-clause-whole : goal.returns-clause-whole
returns-clause-whole c = λ r h bounds. accepted r h bounds (writes-back-alone r h bounds)

pub returns-clause-clock : goal.returns-clause-clock
returns-clause-clock c = λ r h bounds. each-clock r h bounds (writes-back-alone r h bounds)
