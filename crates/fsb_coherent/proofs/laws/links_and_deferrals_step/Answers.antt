use Rattle.fsb_coherent.proofs.Steps.{chain-more, chain-kept, deferral-more}
use Rattle.fsb_coherent.proofs.laws.links_and_deferrals_step.Goals as goal

pub returns-clause-links : goal.returns-clause-links
returns-clause-links c = chain-more

pub returns-clause-kept : goal.returns-clause-kept
returns-clause-kept c = chain-kept

pub returns-clause-deferral : goal.returns-clause-deferral
returns-clause-deferral c = deferral-more
