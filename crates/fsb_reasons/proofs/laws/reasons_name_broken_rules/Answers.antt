use Rattle.fsb_reasons.proofs.All.{sound}
use Rattle.fsb_reasons.proofs.laws.reasons_name_broken_rules.Goals as goal

pub returns : goal.returns
returns c = sound
