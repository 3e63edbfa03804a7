use Rattle.std.proofs.Common.{◌≡◌, ◌+◌, ◌-◌, ◌*◌, ◌≤◌, ◌++◌}
use Rattle.arrayvec.specs.ArrayVec.{array_vec_len}
use Rattle.fsb_signal.specs.DumpText.{texts_from}
use Rattle.scope_write.specs.Text.{shown_change}
use Rattle.scope_write.proofs.value.put_changes.Given as goal

abbrev pub invariant-loop-number : goal.invariant-loop-number
invariant-loop-number g l = record {
  len : array_vec_len l.text ≤ array_vec_len l.initial.text + 68 * (l.number - 1);
  items : l.text.items ≡ l.initial.text.items ++ texts_from (shown_change l.there l.before l.now) 1 (l.number - 1);
}
