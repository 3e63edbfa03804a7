use Rattle.fsb_timely.proofs.Beginnings.{carried-kept}
use Rattle.fsb_timely.proofs.growth.carried_data_stay.Goals as goal

pub returns : goal.returns
returns c = carried-kept
