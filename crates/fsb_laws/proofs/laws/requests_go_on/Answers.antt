use Rattle.fsb_laws.proofs.LiveSteps.{live_clock_of-more, live_clock_of-less, live_clock_of-new}
use Rattle.fsb_laws.proofs.laws.requests_go_on.Goals as goal

pub returns : goal.returns
returns c = record { kept = live_clock_of-more; none_but = live_clock_of-less; new = live_clock_of-new }
