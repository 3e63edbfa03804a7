use Rattle.std.proofs.Common.{◌≡◌, ◌≤◌, ◌+◌, ◌*◌, ◌++◌, take}
use Rattle.std.specs.List.{flat_map}
use Rattle.arrayvec.specs.ArrayVec.{array_vec_len}
use Rattle.fsb_look.specs.SearchText.{behind_text}
use Rattle.fsb_look.proofs.text.put_behind.Given as goal

abbrev pub invariant-loop-clock : goal.invariant-loop-clock
invariant-loop-clock l = record {
  items : l.line.items ≡ l.initial.line.items ++ flat_map behind_text (take l.clock-index l.clocks);
  len : array_vec_len l.line ≤ array_vec_len l.initial.line + 21 * l.clock-index;
}
