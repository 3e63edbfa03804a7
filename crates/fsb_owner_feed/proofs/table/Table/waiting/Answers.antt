use Rattle.std.proofs.Common.{ap, subst, sym, ◌∙◌}
use Rattle.std.specs.List.{find}
use Rattle.fsb_owner_feed.specs.Table.{SaysWaiting, is_row_waiting}
use Rattle.fsb_owner_feed.proofs.NextRows.{says_waiting}
use Rattle.fsb_owner_feed.proofs.table.Table.waiting.Goals as goal

pub returns : goal.returns
returns c = λ h s o.
    subst (SaysWaiting h) (sym (c.first_waiting.ensures ∙ ap (find is_row_waiting) (c.as_slice.ensures h s.rows))) (says_waiting h o)
