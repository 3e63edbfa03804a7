use Rattle.fsb_agent_run.proofs.CallsAtStages.{own-seen}
use Rattle.fsb_agent_run.proofs.FewOwed.{within}
use Rattle.fsb_agent_run.proofs.MayCalls.{other-may}
use Rattle.fsb_agent_run.proofs.OwedStages.{claimed-out, replied-out}
use Rattle.fsb_agent_run.proofs.calls.snoop_ends_may_be_seen.Goals as goal

pub returns-clause-claimed : goal.returns-clause-claimed
returns-clause-claimed c =
    λ r a d s claim v h there claims mine sound view owed.
    own-seen r a d s.first s v h (claimed-out r a d s claim v h there claims mine view) sound view owed

pub returns-clause-replied : goal.returns-clause-replied
returns-clause-replied c =
    λ r a d number s grant v h there none made mine asked sound view owed.
    own-seen r a d number s v h (replied-out r a d number s grant v h there none made mine asked view) sound view owed

pub returns-clause-others : goal.returns-clause-others
returns-clause-others c =
    λ r a d number s v h there owed. other-may r a d number s v h.timely h.bounds (within r d h.long) there owed
