use Rattle.std.proofs.Common.{length}
use Rattle.fsb_agent.proofs.hand.Hand.+serve_all.Given as goal

abbrev pub decreases-serve_all : goal.decreases-serve_all
decreases-serve_all l = length l.accesses.now
