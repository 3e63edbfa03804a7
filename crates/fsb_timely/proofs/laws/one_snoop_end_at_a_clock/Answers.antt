use Rattle.fsb_timely.proofs.OneEnd.{one_end}
use Rattle.fsb_timely.proofs.laws.one_snoop_end_at_a_clock.Goals as goal

pub returns : goal.returns
returns c = one_end
