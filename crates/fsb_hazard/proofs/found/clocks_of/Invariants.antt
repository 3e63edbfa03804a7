use Rattle.std.proofs.Common.{take}
use Rattle.fsb_hazard.specs.Found.{AreHeld}
use Rattle.fsb_hazard.proofs.found.clocks_of.Given as goal

abbrev pub invariant-loop-line : goal.invariant-loop-line
invariant-loop-line l = AreHeld l.held.items (take l.line-index l.lines)
