-- None of the taps before is too narrow.
use Rattle.std.proofs.Common.{◌≡◌, drop}
use Rattle.vcd_way.specs.Steps.{is_too_wide_for}
use Rattle.vcd_scan.proofs.machine.is_too_wide.Given as goal

abbrev pub invariant-loop-tap : goal.invariant-loop-tap
invariant-loop-tap l = is_too_wide_for (drop l.tap-index l.taps) l.digits ≡ is_too_wide_for l.taps l.digits
