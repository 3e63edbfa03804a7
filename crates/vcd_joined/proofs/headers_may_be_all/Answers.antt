use Rattle.vcd_joined.proofs.Events.{faultless-header, header-ends-well, whole-header, told-by-header}
use Rattle.vcd_joined.proofs.headers_may_be_all.Goals as goal

pub returns-clause-fault : goal.returns-clause-fault
returns-clause-fault c = faultless-header

pub returns-clause-early : goal.returns-clause-early
returns-clause-early c = header-ends-well

pub returns-clause-header : goal.returns-clause-header
returns-clause-header c = whole-header

pub returns-clause-events : goal.returns-clause-events
returns-clause-events c = λ x m w text h. told-by-header x m w text c.told_step_by_step.ensures.all h
