use Rattle.fsb_timely.specs.Runs.{past_of}
use Rattle.fsb_agent_run.proofs.SentViews.{sent-view, unsent-view}
use Rattle.fsb_agent_run.proofs.stages.begun_requests_lead_on.Goals as goal

pub returns-clause-sent : goal.returns-clause-sent
returns-clause-sent c = λ r a d claim v h begun mine view. sent-view r a d claim v h begun mine view

pub returns-clause-unsent : goal.returns-clause-unsent
returns-clause-unsent c = λ r a d v other view. unsent-view (past_of r) a d v other view
