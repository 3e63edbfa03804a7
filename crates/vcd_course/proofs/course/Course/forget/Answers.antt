use Rattle.std.proofs.Common.{◌∙◌}
use Rattle.vcd_course.specs.Opening.{OpenPiece}
use Rattle.vcd_course.specs.Told.{open_told, rows_told}
use Rattle.vcd_course.proofs.Opening.{forgotten_from_here}
use Rattle.vcd_course.proofs.course.Course.forget.Goals as goal

pub returns-clause-open : goal.returns-clause-open
returns-clause-open c =
    let o : OpenPiece = open_told c.args.self.now in
    (λ i. record o {
      course = record o.course { values = rows_told (c.forget.ensures.before i) };
      now = c.forget.ensures.inside i;
    }) ∙ forgotten_from_here o c.args.unset.now
