use Rattle.fsb_owner_laws.proofs.OneMore.{verdict-more}
use Rattle.fsb_owner_laws.proofs.laws.ownership_verdict_goes_on.Goals as goal

pub returns : goal.returns
returns c = verdict-more
