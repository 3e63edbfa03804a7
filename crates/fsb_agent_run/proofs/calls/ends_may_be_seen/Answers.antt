use Rattle.fsb_agent_run.proofs.EndsAtStages.{arrives-seen, given-up-seen, upgrade-seen}
use Rattle.fsb_agent_run.proofs.calls.ends_may_be_seen.Goals as goal

pub returns-clause-arrives : goal.returns-clause-arrives
returns-clause-arrives c =
    λ r a d number s grant v h ends made sound view. arrives-seen r a d number s grant v h ends made sound view

pub returns-clause-upgraded : goal.returns-clause-upgraded
returns-clause-upgraded c =
    λ r a d number s v h ends upgraded sound view. upgrade-seen r a d number s v h ends upgraded sound view

pub returns-clause-given_up : goal.returns-clause-given_up
returns-clause-given_up c = λ r a d number s v h ends so sound view. given-up-seen r a d number s v h ends so sound view
