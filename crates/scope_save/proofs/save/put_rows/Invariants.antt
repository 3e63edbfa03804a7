use Rattle.std.proofs.Common.{◌≡◌, ◌-◌, ◌++◌}
use Rattle.fsb_signal.specs.DumpText.{texts_from}
use Rattle.scope_save.specs.SaveText.{row_text}
use Rattle.scope_save.proofs.save.put_rows.Given as goal

abbrev pub invariant-loop-line : goal.invariant-loop-line
invariant-loop-line l =
    l.text.items ≡ l.initial.text.items ++ texts_from (row_text l.variables l.wires) 0 (l.line - 0)
