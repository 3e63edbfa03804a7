use Rattle.fsb_agent_run.proofs.OwedStages.{claimed-out, own-owed-then, replied-out}
use Rattle.fsb_agent_run.proofs.owed.own_snoop_ends_leave_bytes_owed.Goals as goal

pub returns-clause-claimed : goal.returns-clause-claimed
returns-clause-claimed c =
    λ r a d s claim request shared v h there claims mine view owed.
    own-owed-then r a d s.first s v request shared h (claimed-out r a d s claim v h there claims mine view) owed

pub returns-clause-replied : goal.returns-clause-replied
returns-clause-replied c =
    λ r a d number s grant request shared v h there none made mine asked view owed.
    own-owed-then r a d number s v request shared h
    (replied-out r a d number s grant v h there none made mine asked view)
    owed
