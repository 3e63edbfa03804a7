-- The number is that of the bytes from the place on.
use Rattle.std.proofs.Common.{◌≡◌, ◌≤◌, length, drop}
use Rattle.vcd_read.specs.CodesView.{packed}
use Rattle.vcd_read.proofs.codes.packed.Given as goal

abbrev pub invariant-loop-left : goal.invariant-loop-left
invariant-loop-left l = record {
  within : l.left ≤ length l.code;
  value : l.key ≡ packed (drop l.left l.code);
}

abbrev pub decreases-loop-left : goal.decreases-loop-left
decreases-loop-left l = l.left
