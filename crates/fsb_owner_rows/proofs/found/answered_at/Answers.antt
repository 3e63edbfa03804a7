use Rattle.std.proofs.Common.{◌∙◌}
use Rattle.fsb_owner_rows.proofs.FoundRows.{answered}
use Rattle.fsb_owner_rows.proofs.found.answered_at.Goals as goal

pub returns : goal.returns
returns c = λ v k. c.first_answered.ensures ∙ answered c.args.rows.now v c.args.clock k
