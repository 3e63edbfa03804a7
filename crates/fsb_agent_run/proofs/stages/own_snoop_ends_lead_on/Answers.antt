use Rattle.fsb_agent_run.proofs.OwnSnoops.{own-claimed}
use Rattle.fsb_agent_run.proofs.OtherSnoops.{own-replied}
use Rattle.fsb_agent_run.proofs.stages.own_snoop_ends_lead_on.Goals as goal

pub returns-clause-claimed : goal.returns-clause-claimed
returns-clause-claimed c =
    λ r a d s claim request shared v h some there claims mine seen view.
    own-claimed r a d s claim request shared v h some there claims mine seen view

pub returns-clause-replied : goal.returns-clause-replied
returns-clause-replied c =
    λ r a d number s grant request v h some there none makes mine asked view.
    own-replied r a d number s grant request v h some there none makes mine asked view
