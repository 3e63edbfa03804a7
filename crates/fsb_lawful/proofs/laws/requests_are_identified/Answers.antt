use Rattle.fsb_lawful.proofs.Identity.{keeps-7}
use Rattle.fsb_lawful.proofs.laws.requests_are_identified.Goals as goal

pub returns : goal.returns
returns c = keeps-7
