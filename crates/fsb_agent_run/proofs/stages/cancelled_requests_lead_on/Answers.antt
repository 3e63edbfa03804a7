use Rattle.fsb_agent_run.proofs.SentViews.{cancelled-view, uncancelled-view}
use Rattle.fsb_agent_run.proofs.stages.cancelled_requests_lead_on.Goals as goal

pub returns-clause-cancelled : goal.returns-clause-cancelled
returns-clause-cancelled c = λ r a d q v h e view. cancelled-view r a d q v h e view

pub returns-clause-uncancelled : goal.returns-clause-uncancelled
returns-clause-uncancelled c = λ r a d v h other view. uncancelled-view r a d v h other view
