use Rattle.std.proofs.Common.{length}
use Rattle.fsb_agent.proofs.parts.Parts.+want_among.Given as goal

abbrev pub decreases-want_among : goal.decreases-want_among
decreases-want_among l = length l.accesses.now
