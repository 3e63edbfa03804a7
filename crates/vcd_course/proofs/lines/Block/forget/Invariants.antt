-- The lines that are left become unknown too.
use Rattle.std.proofs.Common.{◌≡◌, drop, true}
use Rattle.std.specs.List.{list_all}
use Rattle.vcd_way.specs.Lawful.{is_line}
use Rattle.vcd_way.specs.Events.{unknown_in}
use Rattle.vcd_course.specs.Told.{rows_told}
use Rattle.vcd_course.proofs.lines.Block.forget.Given as goal

abbrev pub invariant-loop-line : goal.invariant-loop-line
invariant-loop-line l = record {
  before : l.self.before ≡ l.initial.self.before;
  values : unknown_in (rows_told l.self.inside) (drop l.line-index l.lines)
      ≡ unknown_in (rows_told l.initial.self.inside) l.lines;
  lawful : list_all is_line (drop l.line-index l.lines) ≡ true;
}
