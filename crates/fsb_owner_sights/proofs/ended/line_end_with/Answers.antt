use Rattle.std.proofs.Common.{◌∙◌, ap}
use Rattle.std.specs.Option.{option_map}
use Rattle.fsb_owners.specs.Shown.{origin_clock_of}
use Rattle.fsb_owner_table.specs.Rows.{row_at}
use Rattle.fsb_owner_sights.proofs.EndRows.{live_of, not_ended, number_of, with_none, with_some}
use Rattle.fsb_owner_sights.proofs.ended.line_end_with.Goals as goal

pub returns-in-Some-clause-traced : goal.returns-in-Some-clause-traced
returns-in-Some-clause-traced c =
    λ v s j q k g.
    with_some g c.in-Some.origin c.line_end_by.result
    (c.in-Some.ensures v s q k g.is (live_of g) (not_ended v s j q k.orderly g.snooped g.clock)
    ∙ ap (λ i. option_map (row_at v) (origin_clock_of v i)) (number_of g))
    (λ p o. c.line_end_by.ensures.traced v s j q p o)

pub returns-in-None-clause-traced : goal.returns-in-None-clause-traced
returns-in-None-clause-traced c =
    λ v s j q k g.
    with_none g
    (c.in-None.ensures v s q k g.is (live_of g) (not_ended v s j q k.orderly g.snooped g.clock)
    ∙ ap (λ i. option_map (row_at v) (origin_clock_of v i)) (number_of g))
