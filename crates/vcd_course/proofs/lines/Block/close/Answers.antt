use Rattle.std.proofs.Common.{[], sym, ap, ◌∙◌}
use Rattle.std.proofs.lemmas.List.{ext_get_or}
use Rattle.fsb_signal.specs.Table.{table}
use Rattle.vcd_course.specs.Lines.{values_in}
use Rattle.vcd_course.proofs.lines.Block.close.Goals as goal

pub returns-clause-before : goal.returns-clause-before
returns-clause-before c =
    let before = c.follow.new.self in
    let inside = c.args.self.now.inside in
    ap (values_in table) (ext_get_or [] before.rows inside.rows (before.long ∙ sym inside.long)
    (λ k below. c.follow.ensures k))
