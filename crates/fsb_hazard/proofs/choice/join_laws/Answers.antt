use Rattle.fsb_hazard.proofs.JoinLaws.{join_commutes, join_regroups, join_once, join_nothing}
use Rattle.fsb_hazard.proofs.choice.join_laws.Goals as goal

pub returns : goal.returns
returns c = record { commutes = join_commutes; regroups = join_regroups; once = join_once; nothing = join_nothing }
