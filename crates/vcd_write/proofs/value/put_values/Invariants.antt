use Rattle.std.proofs.Common.{◌≡◌, ◌+◌, ◌-◌, ◌≤◌, ◌++◌}
use Rattle.arrayvec.specs.ArrayVec.{array_vec_len}
use Rattle.fsb_signal.specs.DumpText.{texts_from, sample_value_text}
use Rattle.vcd_write.specs.Room.{values_room}
use Rattle.vcd_write.proofs.value.put_values.Given as goal

abbrev pub invariant-loop-number : goal.invariant-loop-number
invariant-loop-number g l = record {
  len : array_vec_len l.text ≤ array_vec_len l.initial.text + values_room l.number;
  items : l.text.items ≡ l.initial.text.items ++ texts_from (sample_value_text l.sample) 1 (l.number - 1);
}
