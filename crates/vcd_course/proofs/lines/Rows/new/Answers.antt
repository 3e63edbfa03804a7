use Rattle.std.proofs.Common.{refl}
use Rattle.vcd_course.proofs.RowFacts.{first_rows, first_says}
use Rattle.vcd_course.proofs.lines.Rows.new.Goals as goal

pub invariant_of-result : goal.invariant_of-result
invariant_of-result c = record { long = refl; says = first_says }

pub returns : goal.returns
returns c = first_rows
