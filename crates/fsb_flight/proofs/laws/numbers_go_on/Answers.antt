use Rattle.fsb_flight.proofs.Numbers.{rising-goes_on}
use Rattle.fsb_flight.proofs.laws.numbers_go_on.Goals as goal

pub returns : goal.returns
returns c = rising-goes_on
