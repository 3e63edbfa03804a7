use Rattle.fsb_trace.proofs.Order.{one_snoop}
use Rattle.fsb_trace.proofs.laws.one_snoop_at_a_clock.Goals as goal

pub returns : goal.returns
returns c = one_snoop
