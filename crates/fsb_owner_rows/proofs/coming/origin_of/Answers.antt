use Rattle.std.proofs.Common.{◌∙◌}
use Rattle.fsb_owner_rows.proofs.Origins.{origin_of_row}
use Rattle.fsb_owner_rows.proofs.coming.origin_of.Goals as goal

pub returns : goal.returns
returns c = λ v s q k e live going. c.origin_row.ensures ∙ origin_of_row c.args.rows.now c.args.row.now v s q k e live going
