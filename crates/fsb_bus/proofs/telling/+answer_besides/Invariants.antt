use Rattle.std.proofs.Common.{length}
use Rattle.fsb_bus.proofs.telling.+answer_besides.Given as goal

abbrev pub decreases-answer_besides : goal.decreases-answer_besides
decreases-answer_besides l = length l.agents.now
