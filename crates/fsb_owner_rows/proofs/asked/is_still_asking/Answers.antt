use Rattle.std.proofs.Common.{◌∙◌}
use Rattle.fsb_owner_rows.proofs.Askers.{still_asking}
use Rattle.fsb_owner_rows.proofs.asked.is_still_asking.Goals as goal

pub returns : goal.returns
returns c = λ v k. c.some_outstanding.ensures ∙ still_asking c.args.rows.now v c.args.line c.args.agent c.args.clock k
