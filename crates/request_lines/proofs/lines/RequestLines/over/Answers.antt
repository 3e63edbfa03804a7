use Rattle.std.proofs.Common.{◌∙◌, ap}
use Rattle.row_texts.specs.Lines.{lines_text}
use Rattle.request_lines.proofs.Sounds.{newly-is}
use Rattle.request_lines.proofs.lines.RequestLines.over.Goals as goal

pub returns : goal.returns
returns c = λ v s.
    c.in_ok-lines_of.ensures
    ∙ ap (λ rows. lines_text c.args.self.now.form c.args.before rows)
    (c.deref.ensures.value ∙ c.in_ok-rows.ensures ∙ newly-is _ _ v (c.clock-clocks.ensures ∙ s.clock) (c.rows.ensures v s))
