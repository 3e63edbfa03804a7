use Rattle.fsb_timely.proofs.EachClock.{keeps-at, keeps-all}
use Rattle.fsb_timely.proofs.laws.parts_are_tested.Goals as goal

pub returns : goal.returns
returns c = λ part r. (keeps-at part r, keeps-all part r)
