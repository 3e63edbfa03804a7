use Rattle.fsb_run_laws.proofs.TurnsGrow.{turns-grow}
use Rattle.fsb_run_laws.proofs.moments.turns_step.Goals as goal

pub returns : goal.returns
returns c = turns-grow
