use Rattle.fsb_owner_table.proofs.Fresh.{begun_is}
use Rattle.fsb_owner_table.proofs.row.begun_row.Goals as goal

pub returns : goal.returns
returns c = λ h x v more orderly after some is names. begun_is more orderly after some c.args.seen c.args.line is names
