use Rattle.std.proofs.Common.{◌∙◌}
use Rattle.fsb_owner_sights.proofs.AskingRows.{asking_empty, asking_some}
use Rattle.fsb_owner_sights.proofs.asking.asking_by.Goals as goal

pub returns-in-Some-clause-traced : goal.returns-in-Some-clause-traced
returns-in-Some-clause-traced c =
    λ v k e t. c.asking_for.ensures.traced v k e ∙ asking_some v c.args.clock c.args.row.now c.in-Some.line e t c.in-Some.ensures

pub returns-in-None-clause-traced : goal.returns-in-None-clause-traced
returns-in-None-clause-traced c =
    λ v k e t. asking_empty v c.args.clock c.args.row.now e t c.in-None.ensures
