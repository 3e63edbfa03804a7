use Rattle.std.proofs.Common.{ap, subst, sym, ◌∙◌}
use Rattle.std.specs.List.{find}
use Rattle.fsb_owner_feed.specs.Table.{SaysAsking, is_row_asking}
use Rattle.fsb_owner_feed.proofs.NextRows.{says_asking}
use Rattle.fsb_owner_feed.proofs.table.Table.asking.Goals as goal

pub returns : goal.returns
returns c = λ h s o.
    subst (SaysAsking h) (sym (c.first_asking.ensures ∙ ap (find is_row_asking) (c.as_slice.ensures h s.rows))) (says_asking h o)
