use Rattle.fsb_agent_run.proofs.Words
use Words.{◌+◌, past_of, line_arrived, upgrade_ended}
use Rattle.fsb_agent_run.proofs.FewOwed.{within}
use Rattle.fsb_agent_run.proofs.OwedEnds.{ends-kept, line-owed, upgrade-owed}
use Rattle.fsb_agent_run.proofs.OwedStages.{fills-after, fills-then}
use Rattle.fsb_agent_run.proofs.owed.ends_bring_what_is_promised.Goals as goal

pub returns-clause-arrived : goal.returns-clause-arrived
returns-clause-arrived c =
    λ r a d number bytes v h before after owed.
    line-owed r a d number bytes v h.timely h.bounds (within r d h.long) (fills-after (past_of r) a d v before)
    (fills-then (past_of r) a (d + 1) (line_arrived v d number bytes) after) owed

pub returns-clause-upgraded : goal.returns-clause-upgraded
returns-clause-upgraded c =
    λ r a d number v h before after owed.
    upgrade-owed r a d number v h.timely h.bounds (within r d h.long) (fills-after (past_of r) a d v before)
    (fills-then (past_of r) a (d + 1) (upgrade_ended v d number) after) owed

pub returns-clause-kept : goal.returns-clause-kept
returns-clause-kept c =
    λ p a d v w e before after owed.
    ends-kept p a (d + 1) (d + 1) d (d + 1) v w e (fills-after p a d v before) (fills-then p a (d + 1) w after) owed
