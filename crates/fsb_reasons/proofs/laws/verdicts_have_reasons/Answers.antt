use Rattle.fsb_reasons.proofs.All.{verdict-reason}
use Rattle.fsb_reasons.proofs.laws.verdicts_have_reasons.Goals as goal

pub returns : goal.returns
returns c = verdict-reason
