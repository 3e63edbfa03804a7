use Rattle.fsb_coherent.proofs.Clocks.{may-below}
use Rattle.fsb_coherent.proofs.laws.ties_go_on.Goals as goal

pub returns : goal.returns
returns c = may-below
