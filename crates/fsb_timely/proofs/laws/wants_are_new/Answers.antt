use Rattle.fsb_timely.proofs.Wanted.{want_of-new}
use Rattle.fsb_timely.proofs.laws.wants_are_new.Goals as goal

pub returns : goal.returns
returns c = want_of-new
