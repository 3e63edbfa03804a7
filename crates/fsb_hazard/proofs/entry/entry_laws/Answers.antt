use Rattle.fsb_hazard.proofs.JoinLaws.{entry-append}
use Rattle.fsb_hazard.proofs.entry.entry_laws.Goals as goal

pub returns : goal.returns
returns c = entry-append
