use Rattle.std.proofs.Common.{◌∙◌}
use Rattle.fsb_owner_rows.proofs.FoundRows.{snooped}
use Rattle.fsb_owner_rows.proofs.found.snooped_at.Goals as goal

pub returns : goal.returns
returns c = λ v k. c.first_snooped.ensures ∙ snooped c.args.rows.now v c.args.clock k
