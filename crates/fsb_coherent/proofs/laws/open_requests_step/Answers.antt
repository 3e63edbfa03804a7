use Rattle.fsb_coherent.proofs.Steps.{open-kept, open-before, open-untouched}
use Rattle.fsb_coherent.proofs.laws.open_requests_step.Goals as goal

pub returns-clause-kept : goal.returns-clause-kept
returns-clause-kept c = open-kept

pub returns-clause-before : goal.returns-clause-before
returns-clause-before c = open-before

pub returns-clause-untouched : goal.returns-clause-untouched
returns-clause-untouched c = open-untouched
