use Rattle.std.proofs.Common.{take}
use Rattle.fsb_hazard.specs.Found.{AreChosen}
use Rattle.fsb_hazard.proofs.found.choices_of.Given as goal

abbrev pub invariant-loop-line : goal.invariant-loop-line
invariant-loop-line l = AreChosen l.choices (take l.line-index l.lines)
