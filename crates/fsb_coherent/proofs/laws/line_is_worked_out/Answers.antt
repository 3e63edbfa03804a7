use Rattle.fsb_coherent.proofs.WorkedLine.{worked-out}
use Rattle.fsb_coherent.proofs.laws.line_is_worked_out.Goals as goal

pub returns : goal.returns
returns c = worked-out
