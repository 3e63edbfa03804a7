use Rattle.std.proofs.Common.{take, arith}
use Rattle.vcd_course.specs.Lines.{is_listed}
use Rattle.vcd_course.proofs.Marks.{same_either}
use Rattle.vcd_course.proofs.lines.Rows.follow.Goals as goal

pub returns : goal.returns
returns c = λ line.
    same_either (is_listed (take c.args.count c.args.lines.now) line) _ _ (c.copy_lines.ensures.copied line)
    (λ e. c.copy_lines.ensures.kept line (c.requires (omega arith) line e))
