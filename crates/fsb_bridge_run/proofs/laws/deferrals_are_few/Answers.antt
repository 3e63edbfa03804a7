use Rattle.fsb_bridge_run.proofs.GrownLists.{list-most, list-room}
use Rattle.fsb_bridge_run.proofs.laws.deferrals_are_few.Goals as goal

pub returns-clause-most : goal.returns-clause-most
returns-clause-most c = list-most

pub returns-clause-room : goal.returns-clause-room
returns-clause-room c = list-room
