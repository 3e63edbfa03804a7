use Rattle.std.proofs.Common.{arith}
use Rattle.vcd_grammar.specs.Levels.{control_of}
use Rattle.vcd_course.proofs.sample.control_of.Goals as goal

pub returns : goal.returns
unfolding control_of
returns g c = λ f is. grind (arith, is)
