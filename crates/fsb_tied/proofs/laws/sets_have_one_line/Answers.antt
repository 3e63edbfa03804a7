use Rattle.fsb_tied.proofs.LinesOfSets.{asked-alone, held-alone, held-unasked}
use Rattle.fsb_tied.proofs.laws.sets_have_one_line.Goals as goal

pub returns-clause-held : goal.returns-clause-held
returns-clause-held c = held-alone

pub returns-clause-unasked : goal.returns-clause-unasked
returns-clause-unasked c = held-unasked

pub returns-clause-asked : goal.returns-clause-asked
returns-clause-asked c = asked-alone
