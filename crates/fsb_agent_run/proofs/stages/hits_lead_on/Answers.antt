use Rattle.fsb_timely.specs.Runs.{past_of}
use Rattle.fsb_agent_run.proofs.HitViews.{handed-view, performed-logged, performed-view}
use Rattle.fsb_agent_run.proofs.stages.hits_lead_on.Goals as goal

pub returns-clause-handed : goal.returns-clause-handed
returns-clause-handed c = λ r a d number v h. handed-view (past_of r) a d number v h

pub returns-clause-hit : goal.returns-clause-hit
returns-clause-hit c = λ r a d v h few view. performed-view r a d v h few view

pub returns-clause-logged : goal.returns-clause-logged
returns-clause-logged c = λ p a d v view logs. performed-logged p a d v view logs
