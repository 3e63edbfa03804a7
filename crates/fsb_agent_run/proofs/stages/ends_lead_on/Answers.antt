use Rattle.fsb_agent_run.proofs.EndEvents.{given-up-view, line-view, upgrade-view}
use Rattle.fsb_agent_run.proofs.EndViews.{quiet-end-view}
use Rattle.fsb_agent_run.proofs.stages.ends_lead_on.Goals as goal

pub returns-clause-arrived : goal.returns-clause-arrived
returns-clause-arrived c =
    λ r a d number s grant bytes v h some few ends makes view.
    line-view r a d number s grant bytes v h some few ends makes view

pub returns-clause-upgraded : goal.returns-clause-upgraded
returns-clause-upgraded c =
    λ r a d number s v h some few ends upgraded view. upgrade-view r a d number s v h some few ends upgraded view

pub returns-clause-given_up : goal.returns-clause-given_up
returns-clause-given_up c =
    λ r a d number s v h few ends which view. given-up-view r a d number s v h few ends which view

pub returns-clause-quiet : goal.returns-clause-quiet
returns-clause-quiet c = λ r a d v h few quiet view. quiet-end-view r a d v h few quiet view
