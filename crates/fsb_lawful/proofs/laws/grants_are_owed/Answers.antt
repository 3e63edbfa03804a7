use Rattle.fsb_lawful.proofs.GrantsOwed.{grants-are-owed}
use Rattle.fsb_lawful.proofs.laws.grants_are_owed.Goals as goal

pub returns : goal.returns
returns c = grants-are-owed
