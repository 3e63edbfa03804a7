use Rattle.fsb_owner_sights.proofs.EndRows.{at_none, at_some}
use Rattle.fsb_owner_sights.proofs.ended.line_end_at.Goals as goal

pub returns-in-Some-clause-traced : goal.returns-in-Some-clause-traced
returns-in-Some-clause-traced c =
    λ v k.
    at_some v c.args.clock c.in-Some.row c.line_end_with.result (c.in-Some.ensures v k)
    (λ j q g. c.line_end_with.ensures.traced v c.args.clock j q k g)

pub returns-in-None-clause-traced : goal.returns-in-None-clause-traced
returns-in-None-clause-traced c =
    λ v k. at_none v c.args.clock (c.in-None.ensures v k)
