use Rattle.fsb_phase_run.proofs.EndedNow.{ended-now}
use Rattle.fsb_phase_run.proofs.moments.ends_are_told.Goals as goal

pub returns : goal.returns
returns c = ended-now
