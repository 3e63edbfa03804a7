use Rattle.fsb_agent_run.proofs.EntriesLogged.{arrived-entries, performed-entries, upgrade-entries}
use Rattle.fsb_agent_run.proofs.LoggedSteps.{entries-logged}
use Rattle.fsb_agent_run.proofs.laws.entries_go_by_the_run.Goals as goal

pub returns-clause-performed : goal.returns-clause-performed
returns-clause-performed c = λ p a d v view. performed-entries p a d v view

pub returns-clause-arrived : goal.returns-clause-arrived
returns-clause-arrived c =
    λ r a d number s grant bytes v h ends makes view. arrived-entries r a d number s grant bytes v h ends makes view

pub returns-clause-upgraded : goal.returns-clause-upgraded
returns-clause-upgraded c = λ r a d number s v h ends upgraded view. upgrade-entries r a d number s v h ends
    upgraded view

pub returns-clause-logged : goal.returns-clause-logged
returns-clause-logged c = λ r a d hits arrivals h few hit arrival. entries-logged r a d hits arrivals h few hit arrival
