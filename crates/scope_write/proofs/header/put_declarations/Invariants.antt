use Rattle.std.proofs.Common.{◌≡◌, ◌+◌, ◌-◌, ◌*◌, ◌≤◌, ◌++◌}
use Rattle.arrayvec.specs.ArrayVec.{array_vec_len}
use Rattle.fsb_signal.specs.DumpText.{texts_from}
use Rattle.scope_write.specs.Text.{shown_declaration}
use Rattle.scope_write.proofs.header.put_declarations.Given as goal

abbrev pub invariant-loop-number : goal.invariant-loop-number
invariant-loop-number g l = record {
  len : array_vec_len l.text ≤ array_vec_len l.initial.text + 95 * l.number;
  items : l.text.items ≡ l.initial.text.items ++ texts_from (shown_declaration l.there) 0 (l.number - 0);
}
