use Rattle.std.proofs.Common.{◌≡◌, ◌++◌, take}
use Rattle.std.specs.List.{flat_map}
use Rattle.row_texts.specs.Cells.{column_text}
use Rattle.row_texts.specs.Lines.{place_text}
use Rattle.row_texts.proofs.line.put_cells.Given as goal

abbrev pub invariant-loop-column : goal.invariant-loop-column
invariant-loop-column l =
    l.text.items ≡ l.initial.text.items
    ++ flat_map (λ column. place_text l.form column (column_text l.before l.row column)) (take l.column-index l.columns)
