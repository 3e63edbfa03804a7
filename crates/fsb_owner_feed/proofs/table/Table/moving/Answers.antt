use Rattle.std.proofs.Common.{ap, subst, sym, ◌∙◌}
use Rattle.std.specs.List.{find}
use Rattle.fsb_owner_feed.specs.Table.{SaysMoving, is_row_moving}
use Rattle.fsb_owner_feed.proofs.NextRows.{says_moving}
use Rattle.fsb_owner_feed.proofs.table.Table.moving.Goals as goal

pub returns : goal.returns
returns c = λ h s o.
    subst (SaysMoving h) (sym (c.first_moving.ensures ∙ ap (find is_row_moving) (c.as_slice.ensures h s.rows))) (says_moving h o)
