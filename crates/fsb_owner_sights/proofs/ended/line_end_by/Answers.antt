use Rattle.std.proofs.Common.{◌∙◌}
use Rattle.fsb_owner_sights.proofs.EndRows.{end_none, end_some}
use Rattle.fsb_owner_sights.proofs.ended.line_end_by.Goals as goal

pub returns-in-Some-clause-traced : goal.returns-in-Some-clause-traced
returns-in-Some-clause-traced c =
    λ v s j q p g. c.line_end_for.ensures.traced v s j q p g ∙ end_some g c.in-Some.line c.in-Some.ensures

pub returns-in-None-clause-traced : goal.returns-in-None-clause-traced
returns-in-None-clause-traced c =
    λ v s j q p g. end_none g c.in-None.ensures
