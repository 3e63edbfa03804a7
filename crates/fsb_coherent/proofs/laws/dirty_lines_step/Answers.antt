use Rattle.fsb_coherent.proofs.DirtySteps.{dirty-by-hits, dirty-more}
use Rattle.fsb_coherent.proofs.laws.dirty_lines_step.Goals as goal

pub returns-clause-hits : goal.returns-clause-hits
returns-clause-hits c = dirty-by-hits

pub returns-clause-step : goal.returns-clause-step
returns-clause-step c = dirty-more
