use Rattle.fsb_timely.proofs.Growing.{simulated-more}
use Rattle.fsb_timely.proofs.growth.simulations_grow.Goals as goal

pub returns : goal.returns
returns c = simulated-more
