use Rattle.fsb_owner_verdict.proofs.Earlier.{earlier}
use Rattle.fsb_owner_verdict.proofs.laws.coherence_verdict_is_earlier.Goals as goal

pub returns : goal.returns
returns c = earlier
