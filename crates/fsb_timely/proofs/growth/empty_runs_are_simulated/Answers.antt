use Rattle.fsb_timely.proofs.Growing.{empty-simulated}
use Rattle.fsb_timely.proofs.growth.empty_runs_are_simulated.Goals as goal

pub returns : goal.returns
returns c = empty-simulated
