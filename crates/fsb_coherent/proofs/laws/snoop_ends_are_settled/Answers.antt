use Rattle.fsb_coherent.proofs.SnoopEnds.{outcome-made, grant-made, turn-kept}
use Rattle.fsb_coherent.proofs.laws.snoop_ends_are_settled.Goals as goal

pub returns-clause-outcome : goal.returns-clause-outcome
returns-clause-outcome c = outcome-made

pub returns-clause-grant : goal.returns-clause-grant
returns-clause-grant c = grant-made

pub returns-clause-turn : goal.returns-clause-turn
returns-clause-turn c = turn-kept
