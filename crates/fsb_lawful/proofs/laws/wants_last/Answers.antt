use Rattle.fsb_lawful.proofs.WantsGoOn.{wants-last}
use Rattle.fsb_lawful.proofs.laws.wants_last.Goals as goal

pub returns : goal.returns
returns c = wants-last
