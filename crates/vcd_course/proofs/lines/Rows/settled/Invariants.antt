-- The first lines are settled.
use Rattle.std.proofs.Common.{◌≡◌, take}
use Rattle.vcd_way.specs.Events.{settled}
use Rattle.vcd_course.specs.Told.{rows_told}
use Rattle.vcd_course.proofs.lines.Rows.settled.Given as goal

abbrev pub invariant-loop-line : goal.invariant-loop-line
invariant-loop-line l =
    take l.line (rows_told l.rows) ≡ take l.line (settled (rows_told l.self) (rows_told l.after))
