use Rattle.std.proofs.Common.{◌∙◌}
use Rattle.fsb_owner_rows.proofs.Askers.{held_back}
use Rattle.fsb_owner_rows.proofs.asked.is_held_back.Goals as goal

pub returns : goal.returns
returns c = λ v k. c.some_open.ensures ∙ held_back c.args.rows.now v c.args.line c.args.agent c.args.clock k
