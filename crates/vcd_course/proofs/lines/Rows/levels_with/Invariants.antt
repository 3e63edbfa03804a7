-- The late lines that are left are still as before.
use Rattle.std.proofs.Common.{◌≡◌, ◌≤◌, length, drop, map}
use Rattle.vcd_grammar.specs.Levels.{level_of}
use Rattle.vcd_way.specs.Events.{sampled}
use Rattle.vcd_course.specs.Told.{rows_told}
use Rattle.vcd_course.proofs.lines.Rows.levels_with.Given as goal

abbrev pub invariant-loop-left : goal.invariant-loop-left
invariant-loop-left l = record {
  within : l.left ≤ length l.late;
  levels : l.levels ≡ map level_of (sampled (drop l.left l.late) (rows_told l.self) (rows_told l.after));
}

abbrev pub decreases-loop-left : goal.decreases-loop-left
decreases-loop-left l = l.left
