use Rattle.fsb_table.proofs.Goes.{stands-start}
use Rattle.fsb_table.proofs.going.Going.new.Goals as goal

pub returns : goal.returns
returns c = stands-start
