use Rattle.fsb_timely_laws.proofs.Whole.{each-said}
use Rattle.fsb_timely_laws.proofs.clocks_are_said_of_the_whole.Goals as goal

pub returns : goal.returns
returns c = each-said
