use Rattle.fsb_run_laws.proofs.OpenSteps.{open-step}
use Rattle.fsb_run_laws.proofs.moments.open_lists_step.Goals as goal

pub returns : goal.returns
returns c = open-step
