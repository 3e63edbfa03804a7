use Rattle.fsb_phase_run.proofs.SnoopedNow.{snooped-now}
use Rattle.fsb_phase_run.proofs.moments.snoop_ends_are_told.Goals as goal

pub returns : goal.returns
returns c = snooped-now
