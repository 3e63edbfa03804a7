use Rattle.std.proofs.Common.{◌∙◌}
use Rattle.fsb_owner_rows.proofs.FoundRows.{begun}
use Rattle.fsb_owner_rows.proofs.found.begun_at.Goals as goal

pub returns : goal.returns
returns c = λ v k l. c.first_begun.ensures ∙ begun c.args.rows.now v c.args.clock k l
