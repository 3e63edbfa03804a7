use Rattle.vcd_joined.proofs.Events.{told-so_far, told-before_end, told-nothing, header-is}
use Rattle.vcd_joined.proofs.events_are_told_behind.Goals as goal

pub returns-clause-none : goal.returns-clause-none
returns-clause-none c = λ x m fed h. told-nothing x m fed c.told_step_by_step.ensures.over h

pub returns-clause-so_far : goal.returns-clause-so_far
returns-clause-so_far c = λ x m w head fed h. told-so_far x m w head fed c.told_step_by_step.ensures.over h

pub returns-clause-before_end : goal.returns-clause-before_end
returns-clause-before_end c = λ x m w head fed h. told-before_end x m w head fed c.told_step_by_step.ensures.over h

pub returns-clause-header : goal.returns-clause-header
returns-clause-header c = header-is
