use Rattle.fsb_lawful.proofs.SnoopResults.{keeps-12}
use Rattle.fsb_lawful.proofs.laws.snoop_results_fit.Goals as goal

pub returns : goal.returns
returns c = keeps-12
