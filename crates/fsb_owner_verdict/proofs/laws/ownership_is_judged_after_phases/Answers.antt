use Rattle.fsb_owner_verdict.proofs.Earlier.{sound_before}
use Rattle.fsb_owner_verdict.proofs.laws.ownership_is_judged_after_phases.Goals as goal

pub returns : goal.returns
returns c = sound_before
