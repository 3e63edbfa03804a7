use Rattle.fsb_trace.proofs.Stay.{snoop_end_of-clock}
use Rattle.fsb_trace.proofs.Order.{snoop_end_of-rises}
use Rattle.fsb_trace.proofs.laws.snoop_ends_rise.Goals as goal

pub returns-clause-clock : goal.returns-clause-clock
returns-clause-clock c = λ w i s e. let h = snoop_end_of-clock w i s e in (h.clock, h.is_clock, h.above)

pub returns-clause-apart : goal.returns-clause-apart
returns-clause-apart c = snoop_end_of-rises
