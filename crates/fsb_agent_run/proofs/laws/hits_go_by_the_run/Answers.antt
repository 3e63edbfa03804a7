use Rattle.fsb_agent_run.proofs.EndEvents.{arrives-by}
use Rattle.fsb_agent_run.proofs.EndViews.{quiet-arrival, ungranted-arrival}
use Rattle.fsb_agent_run.proofs.HitsMade.{hit-by}
use Rattle.fsb_agent_run.proofs.Places.{placed-at}
use Rattle.fsb_coherent.specs.Relation.{is_dirty_below}
use Rattle.fsb_agent_run.proofs.laws.hits_go_by_the_run.Goals as goal

pub returns-clause-hit : goal.returns-clause-hit
returns-clause-hit c =
    λ p a d v h. hit-by p a d (λ line. is_dirty_below p a line d) v h.agent (placed-at p a d v h.placed) h.lines

pub returns-clause-arrival : goal.returns-clause-arrival
returns-clause-arrival c =
    λ r a d number s grant out v h ends makes view found. arrives-by r a d number s grant out v h ends makes view found

pub returns-clause-quiet : goal.returns-clause-quiet
returns-clause-quiet c = λ r a d h quiet. quiet-arrival r a d h quiet

pub returns-clause-ungranted : goal.returns-clause-ungranted
returns-clause-ungranted c = λ r a d number s h ends none. ungranted-arrival r a d number s h ends none
