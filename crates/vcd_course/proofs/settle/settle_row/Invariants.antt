-- The first digits are settled.
use Rattle.std.proofs.Common.{◌≡◌, length, take}
use Rattle.vcd_way.specs.Events.{settled_digits}
use Rattle.vcd_course.proofs.settle.settle_row.Given as goal

abbrev pub invariant-loop-i : goal.invariant-loop-i
invariant-loop-i l = record {
  long : length l.row ≡ 64;
  before : length l.before ≡ 64;
  after : length l.after ≡ 64;
  first : take l.i l.row ≡ take l.i (settled_digits l.before l.after);
}
