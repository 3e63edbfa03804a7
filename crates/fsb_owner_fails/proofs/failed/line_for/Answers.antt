use Rattle.std.proofs.Common.{◌∙◌, ap}
use Rattle.std.specs.Option.{option_map}
use Rattle.fsb_count.specs.Options.{is_at}
use Rattle.fsb_owners.specs.Shown.{origin_clock_of}
use Rattle.fsb_owner_table.specs.Rows.{row_at}
use Rattle.fsb_owner_fails.proofs.FailedRows.{line_none, line_some, live_of, not_ended, number_of}
use Rattle.fsb_owner_fails.proofs.failed.line_for.Goals as goal

pub returns-in-Some : goal.returns-in-Some
returns-in-Some c =
    λ v s j q line k g.
    ap (λ o. is_at o line) c.named_line.ensures
    ∙ line_some g c.in-Some.origin line
    (c.in-Some.ensures v s q k g.is (live_of g) (not_ended g)
    ∙ ap (λ i. option_map (row_at v) (origin_clock_of v i)) (number_of g))

pub returns-in-None : goal.returns-in-None
returns-in-None c =
    λ v s j q line k g.
    line_none g line
    (c.in-None.ensures v s q k g.is (live_of g) (not_ended g)
    ∙ ap (λ i. option_map (row_at v) (origin_clock_of v i)) (number_of g))
