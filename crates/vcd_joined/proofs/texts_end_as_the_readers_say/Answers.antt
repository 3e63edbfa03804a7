use Rattle.vcd_joined.proofs.Events.{fault-so_far, first_fault-is, early_end-is, events-are, fault-in-header, fault-of-header}
use Rattle.vcd_joined.proofs.texts_end_as_the_readers_say.Goals as goal

pub returns-clause-fault_in_header : goal.returns-clause-fault_in_header
returns-clause-fault_in_header c = fault-in-header

pub returns-clause-fault_of_header : goal.returns-clause-fault_of_header
returns-clause-fault_of_header c = fault-of-header

pub returns-clause-fault_so_far : goal.returns-clause-fault_so_far
returns-clause-fault_so_far c = fault-so_far

pub returns-clause-fault : goal.returns-clause-fault
returns-clause-fault c = first_fault-is

pub returns-clause-early : goal.returns-clause-early
returns-clause-early c = early_end-is

pub returns-clause-events : goal.returns-clause-events
returns-clause-events c = λ x m w head fed h.
    events-are x m w head fed c.told_step_by_step.ensures.over c.told_step_by_step.ensures.all h
