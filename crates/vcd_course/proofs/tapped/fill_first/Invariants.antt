-- The first digits are filled.
use Rattle.std.proofs.Common.{◌≡◌, length, take, replicate}
use Rattle.vcd_course.proofs.tapped.fill_first.Given as goal

abbrev pub invariant-loop-i : goal.invariant-loop-i
invariant-loop-i l = record {
  long : length l.row ≡ 64;
  first : take l.i l.row ≡ take l.i (replicate l.count l.digit);
}
