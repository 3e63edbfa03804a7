use Rattle.fsb_coherent.proofs.Beginning.{tied-start}
use Rattle.fsb_coherent.proofs.laws.lines_start_tied.Goals as goal

pub returns : goal.returns
returns c = tied-start
