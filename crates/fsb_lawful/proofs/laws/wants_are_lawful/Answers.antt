use Rattle.fsb_lawful.proofs.LawfulBeginnings.{wants-lawfully}
use Rattle.fsb_lawful.proofs.laws.wants_are_lawful.Goals as goal

pub returns : goal.returns
returns c = wants-lawfully
