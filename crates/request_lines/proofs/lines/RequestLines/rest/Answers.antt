use Rattle.std.proofs.Common.{◌∙◌, ap, arith}
use Rattle.row_texts.specs.Lines.{lines_text}
use Rattle.request_lines.specs.Tables.{sound_part}
use Rattle.request_lines.proofs.lines.RequestLines.rest.Goals as goal

pub returns : goal.returns
returns c = λ form m w s.
    c.in_ok-lines_of.ensures
    ∙ ap (λ f. lines_text f c.args.before c.deref.result.now) s.formed
    ∙ ap (λ rows. lines_text form c.args.before rows) (c.deref.ensures.value ∙ c.in_ok-rows.ensures (sound_part m w) s.table s.orderly)
