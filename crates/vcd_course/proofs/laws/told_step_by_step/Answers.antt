use Rattle.std.proofs.Common.{[], None, refl}
use Rattle.vcd_grammar.specs.Values.{at_first}
use Rattle.vcd_way.specs.Events.{course_at_first}
use Rattle.vcd_course.proofs.Opening.{over_told, all_told}
use Rattle.vcd_course.proofs.laws.told_step_by_step.Goals as goal

pub returns-clause-over : goal.returns-clause-over
returns-clause-over c = λ m hs. over_told m course_at_first None at_first [] hs refl

pub returns-clause-all : goal.returns-clause-all
returns-clause-all c = λ m hs. all_told m course_at_first None at_first [] hs refl
