use Rattle.std.proofs.Common.{◌≡◌, ◌+◌, ◌≤◌, ◌++◌}
use Rattle.arrayvec.specs.ArrayVec.{array_vec_len}
use Rattle.scope_write.specs.Text.{shown_digits}
use Rattle.scope_write.proofs.value.put_digits.Given as goal

abbrev pub invariant-loop-place : goal.invariant-loop-place
invariant-loop-place g l = record {
  within : l.place ≤ l.width;
  len : array_vec_len l.text + l.place ≡ array_vec_len l.initial.text + l.width;
  ahead : l.text.items ++ shown_digits l.place l.asserted l.unknown ≡ l.initial.text.items ++ shown_digits l.width l.asserted l.unknown;
}

abbrev pub decreases-loop-place : goal.decreases-loop-place
decreases-loop-place g l = l.place
