use Rattle.vcd_way.proofs.Same.{same-first_fault, same-samples, same-before_end, same-marks, same-fault_so_far, same-so_far}
use Rattle.vcd_way.proofs.Same.{same-count, same-marks_so_far, same-marks_at_end}
use Rattle.vcd_way.proofs.laws.strict_is_the_grammar.Goals as goal

pub returns-clause-fault : goal.returns-clause-fault
returns-clause-fault c = same-first_fault

pub returns-clause-samples : goal.returns-clause-samples
returns-clause-samples c = same-samples

pub returns-clause-before_end : goal.returns-clause-before_end
returns-clause-before_end c = same-before_end

pub returns-clause-marks : goal.returns-clause-marks
returns-clause-marks c = same-marks

pub returns-clause-fault_so_far : goal.returns-clause-fault_so_far
returns-clause-fault_so_far c = same-fault_so_far

pub returns-clause-so_far : goal.returns-clause-so_far
returns-clause-so_far c = same-so_far

pub returns-clause-marks_so_far : goal.returns-clause-marks_so_far
returns-clause-marks_so_far c = λ fed. same-marks_so_far fed (c.marks_come_first.ensures.over fed)

pub returns-clause-marks_at_end : goal.returns-clause-marks_at_end
returns-clause-marks_at_end c = λ text. same-marks_at_end text (c.marks_come_first.ensures.over_at_end text)

pub returns-clause-alone : goal.returns-clause-alone
returns-clause-alone c = same-count
