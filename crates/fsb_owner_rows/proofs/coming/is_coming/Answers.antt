use Rattle.std.proofs.Common.{◌∙◌}
use Rattle.fsb_owner_rows.proofs.ComingRows.{coming}
use Rattle.fsb_owner_rows.proofs.coming.is_coming.Goals as goal

pub returns : goal.returns
returns c = λ v k. c.some_coming.ensures ∙ coming c.args.rows.now v c.args.line c.args.agent c.args.clock k
