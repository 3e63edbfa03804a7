-- The number is that of the characters from the place on, which are printable.
use Rattle.std.proofs.Common.{◌≡◌, ◌≤◌, true, length, drop}
use Rattle.std.specs.List.{list_all}
use Rattle.std.specs.Char.{is_ascii_graphic}
use Rattle.vcd_scan.specs.CodeNumbers.{numbered}
use Rattle.vcd_scan.proofs.numbers.number_of.Given as goal

abbrev pub invariant-loop-left : goal.invariant-loop-left
invariant-loop-left l = record {
  within : l.left ≤ length l.code;
  value : l.number ≡ numbered (drop l.left l.code);
  printable : list_all is_ascii_graphic (drop l.left l.code) ≡ true;
}

abbrev pub decreases-loop-left : goal.decreases-loop-left
decreases-loop-left l = l.left
