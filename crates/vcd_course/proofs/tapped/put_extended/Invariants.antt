-- The first digits stand behind those that are put before them.
use Rattle.std.proofs.Common.{◌≡◌, ◌+◌, ◌-◌, ◌≤◌, length, take}
use Rattle.vcd_grammar.specs.Digits.{extended}
use Rattle.vcd_course.proofs.tapped.put_extended.Given as goal

abbrev pub invariant-loop-i : goal.invariant-loop-i
invariant-loop-i l = record {
  long : length l.row ≡ 64;
  missing : l.missing ≡ l.width - length l.digits;
  within : l.i ≤ length l.digits;
  first : take (l.missing + l.i) l.row ≡ take (l.missing + l.i) (extended l.width l.digits);
}
