use Rattle.fsb_hazard.proofs.HeldClocks.{Reached}
use Rattle.fsb_hazard.proofs.found.reach_on.Given as goal

abbrev pub invariant-loop-clocks : goal.invariant-loop-clocks
invariant-loop-clocks l = Reached l.clocks-items l.fn.held l.clocks-index l.last
