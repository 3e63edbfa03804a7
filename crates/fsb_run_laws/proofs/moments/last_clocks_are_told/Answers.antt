use Rattle.fsb_run_laws.proofs.LastTold.{cancelled-last, ends-last, quiet-last, reply-ends-last}
use Rattle.fsb_run_laws.proofs.moments.last_clocks_are_told.Goals as goal

pub returns-clause-cancelled : goal.returns-clause-cancelled
returns-clause-cancelled c = cancelled-last

pub returns-clause-ended : goal.returns-clause-ended
returns-clause-ended c = ends-last

pub returns-clause-replied : goal.returns-clause-replied
returns-clause-replied c = reply-ends-last

pub returns-clause-quiet : goal.returns-clause-quiet
returns-clause-quiet c = quiet-last
