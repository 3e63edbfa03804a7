use Rattle.std.proofs.Common.{◌≡◌, ◌++◌, take}
use Rattle.row_texts.specs.Lines.{lines_text}
use Rattle.row_texts.proofs.line.put_lines.Given as goal

abbrev pub invariant-loop-row : goal.invariant-loop-row
invariant-loop-row l =
    l.text.items ≡ l.initial.text.items ++ lines_text l.form l.before (take l.row-index l.rows)
