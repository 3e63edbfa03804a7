-- The first digits of the row are those of the tap.
use Rattle.std.proofs.Common.{◌≡◌, length, take}
use Rattle.vcd_grammar.specs.Digits.{extended}
use Rattle.vcd_way.specs.Events.{inverted_if}
use Rattle.vcd_course.proofs.tapped.put_inverted.Given as goal

abbrev pub invariant-loop-i : goal.invariant-loop-i
invariant-loop-i l = record {
  long : length l.row ≡ 64;
  first : take l.i l.row ≡ take l.i (inverted_if l.tap.inverted (extended l.tap.width l.digits));
}
