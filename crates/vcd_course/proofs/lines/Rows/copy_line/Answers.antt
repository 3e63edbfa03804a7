use Rattle.std.proofs.Common.{[], get_or, ◌∙◌, length-set}
use Rattle.vcd_course.proofs.RowFacts.{set_says, says_at}
use Rattle.vcd_course.proofs.lines.Rows.copy_line.Goals as goal

pub invariant_of-self : goal.invariant_of-self
invariant_of-self c =
    let i = c.args.line in
    let old = c.args.self.now in
    let from = c.args.from.now in
    record {
      long = length-set old.rows i (get_or from.rows i []) ∙ old.long;
      says = set_says old.rows old.levels i (get_or from.rows i []) _ old.long old.says
          (says_at from.rows from.levels i from.long from.says c.requires);
    }
