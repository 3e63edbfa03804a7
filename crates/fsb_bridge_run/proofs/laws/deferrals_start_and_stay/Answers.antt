use Rattle.fsb_bridge_run.proofs.GrownLists.{list-first, list-grown}
use Rattle.fsb_bridge_run.proofs.laws.deferrals_start_and_stay.Goals as goal

pub returns-clause-first : goal.returns-clause-first
returns-clause-first c = list-first

pub returns-clause-grown : goal.returns-clause-grown
returns-clause-grown c = list-grown
