use Rattle.std.proofs.Common.{◌≡◌, ◌+◌, ◌≤◌, ◌++◌}
use Rattle.arrayvec.specs.ArrayVec.{array_vec_len}
use Rattle.fsb_signal.specs.DumpText.{digits_of}
use Rattle.vcd_write.proofs.value.put_digits.Given as goal

abbrev pub invariant-loop-place : goal.invariant-loop-place
invariant-loop-place g l = record {
  within : l.place ≤ l.width;
  len : array_vec_len l.text + l.place ≡ array_vec_len l.initial.text + l.width;
  ahead : l.text.items ++ digits_of l.place l.value ≡ l.initial.text.items ++ digits_of l.width l.value;
}

abbrev pub decreases-loop-place : goal.decreases-loop-place
decreases-loop-place g l = l.place
