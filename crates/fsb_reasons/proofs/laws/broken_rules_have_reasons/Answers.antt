use Rattle.fsb_reasons.proofs.All.{complete}
use Rattle.fsb_reasons.proofs.laws.broken_rules_have_reasons.Goals as goal

pub returns : goal.returns
returns c = complete
