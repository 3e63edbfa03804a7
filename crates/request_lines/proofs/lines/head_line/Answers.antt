use Rattle.std.proofs.Common.{sym, ap, ◌∙◌, ◌++◌}
use Rattle.row_texts.specs.Lines.{head_text}
use Rattle.request_lines.proofs.Sounds.{head-only}
use Rattle.request_lines.proofs.lines.head_line.Goals as goal

pub returns : goal.returns
returns c = λ before m.
    c.in_ok-put_head.ensures ∙ ap (λ t. t ++ head_text c.args.form) c.new-text.ensures.items ∙ sym (head-only c.args.form before m)
