use Rattle.fsb_agent_run.proofs.FewOwed.{within}
use Rattle.fsb_agent_run.proofs.OwedSnoopEnds.{replied-owed-after, unsettled-owed-after}
use Rattle.fsb_agent_run.proofs.OwedStages.{other-claimed-owed}
use Rattle.fsb_agent_run.proofs.owed.snoop_ends_of_others_leave_bytes_owed.Goals as goal

pub returns-clause-claimed : goal.returns-clause-claimed
returns-clause-claimed c =
    λ r a d s claim request shared v h few there claims other want view owed.
    other-claimed-owed r a d s claim request shared v h few there claims other want view owed

pub returns-clause-replied : goal.returns-clause-replied
returns-clause-replied c =
    λ r a d number s grant request shared v h there none made owed.
    replied-owed-after r a d number s grant v request shared h.timely h.bounds (within r d h.long) there none made owed

pub returns-clause-quiet : goal.returns-clause-quiet
returns-clause-quiet c =
    λ r a d v h none owed. unsettled-owed-after r a d v h.timely h.bounds (within r d h.long) none owed
