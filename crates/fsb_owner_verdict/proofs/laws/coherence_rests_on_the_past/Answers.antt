use Rattle.fsb_owner_verdict.proofs.Earlier.{any_agree, coherence-stays}
use Rattle.fsb_owner_verdict.proofs.laws.coherence_rests_on_the_past.Goals as goal

pub returns : goal.returns
returns c = record { broken = any_agree; stays = coherence-stays }
