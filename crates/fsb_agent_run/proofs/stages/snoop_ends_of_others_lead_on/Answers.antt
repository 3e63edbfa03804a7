use Rattle.fsb_agent_run.proofs.OtherSnoops.{other-claimed, other-replied, quiet-view}
use Rattle.fsb_agent_run.proofs.stages.snoop_ends_of_others_lead_on.Goals as goal

pub returns-clause-claimed : goal.returns-clause-claimed
returns-clause-claimed c =
    λ r a d number s claim request shared v h there claims other want view.
    other-claimed r a d number s claim request shared v h there claims other want view

pub returns-clause-replied : goal.returns-clause-replied
returns-clause-replied c =
    λ r a d number s grant request shared v h there none makes other view.
    other-replied r a d number s grant request shared v h there none makes other view

pub returns-clause-quiet : goal.returns-clause-quiet
returns-clause-quiet c = λ r a d v h quiet view. quiet-view r a d v h quiet view
