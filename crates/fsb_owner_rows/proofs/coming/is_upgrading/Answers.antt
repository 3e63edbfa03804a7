use Rattle.std.proofs.Common.{◌∙◌}
use Rattle.fsb_owner_rows.proofs.UpgradeRows.{upgrading}
use Rattle.fsb_owner_rows.proofs.coming.is_upgrading.Goals as goal

pub returns : goal.returns
returns c = λ v k l. c.some_upgrading.ensures ∙ upgrading c.args.rows.now v c.args.line c.args.agent c.args.clock k l
