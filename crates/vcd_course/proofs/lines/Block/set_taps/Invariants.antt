-- The taps that are left get the digits too.
use Rattle.std.proofs.Common.{◌≡◌, drop, true, false}
use Rattle.std.specs.List.{list_all}
use Rattle.vcd_way.specs.Lawful.{is_lawful_tap}
use Rattle.vcd_way.specs.Steps.{is_too_wide_for}
use Rattle.vcd_way.specs.Events.{set_taps}
use Rattle.vcd_course.specs.Told.{rows_told}
use Rattle.vcd_course.proofs.lines.Block.set_taps.Given as goal

abbrev pub invariant-loop-tap : goal.invariant-loop-tap
invariant-loop-tap l = record {
  before : l.self.before ≡ l.initial.self.before;
  values : set_taps (rows_told l.self.inside) (drop l.tap-index l.taps) l.digits
      ≡ set_taps (rows_told l.initial.self.inside) l.taps l.digits;
  lawful : list_all is_lawful_tap (drop l.tap-index l.taps) ≡ true;
  narrow : is_too_wide_for (drop l.tap-index l.taps) l.digits ≡ false;
}
