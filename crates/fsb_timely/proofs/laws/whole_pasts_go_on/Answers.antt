use Rattle.fsb_timely.proofs.WholePast.{past-begins, is_arrival-alike, is_brought-alike}
use Rattle.fsb_timely.proofs.laws.whole_pasts_go_on.Goals as goal

pub returns-clause-begins : goal.returns-clause-begins
returns-clause-begins c = past-begins

pub returns-clause-arrival : goal.returns-clause-arrival
returns-clause-arrival c = is_arrival-alike

pub returns-clause-brought : goal.returns-clause-brought
returns-clause-brought c = is_brought-alike
