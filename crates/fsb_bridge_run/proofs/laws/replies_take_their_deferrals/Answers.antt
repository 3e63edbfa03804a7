use Rattle.fsb_bridge_run.proofs.RepliesTake.{hit-taken, reply-takes}
use Rattle.fsb_bridge_run.proofs.laws.replies_take_their_deferrals.Goals as goal

pub returns-clause-deferral : goal.returns-clause-deferral
returns-clause-deferral c = reply-takes

pub returns-clause-hit : goal.returns-clause-hit
returns-clause-hit c = hit-taken
