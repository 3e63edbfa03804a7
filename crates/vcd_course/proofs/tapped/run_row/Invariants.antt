-- The first digits of the run are written.
use Rattle.std.proofs.Common.{◌≡◌, ◌+◌, ◌-◌, ◌≤◌, ◌++◌, length, take, drop}
use Rattle.vcd_grammar.specs.Digits.{extended}
use Rattle.vcd_way.specs.Events.{inverted_if, run_of}
use Rattle.vcd_course.proofs.tapped.run_row.Given as goal

abbrev pub invariant-loop-i : goal.invariant-loop-i
invariant-loop-i l = record {
  long : length l.new ≡ 64;
  old : length l.fn.row ≡ 64;
  top : l.top ≡ l.width - (l.run.lowest + l.run.count);
  within : l.i ≤ l.run.count;
  written : l.new
      ≡ take l.top l.fn.row
      ++ take l.i (run_of l.run (inverted_if l.tap.inverted (extended l.tap.width l.digits)))
      ++ drop (l.top + l.i) l.fn.row;
}
