use Rattle.fsb_trace.proofs.Order.{first_clock_of-rises, live_clock_of-rises}
use Rattle.fsb_trace.proofs.laws.requests_rise.Goals as goal

pub returns-clause-requests : goal.returns-clause-requests
returns-clause-requests c = first_clock_of-rises

pub returns-clause-live : goal.returns-clause-live
returns-clause-live c = live_clock_of-rises
