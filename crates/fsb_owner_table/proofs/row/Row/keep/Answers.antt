use Rattle.std.proofs.Common.{◌≡◌, ap, sym, ◌∙◌, not, cond, Some, None, ◌-◌, length}
use Rattle.fsb_owner_table.proofs.KeptRows.{kept_after}
use Rattle.fsb_owner_table.proofs.row.Row.keep.Goals as goal

pub returns : goal.returns
returns c = λ h v q g old.
    kept_after g c.args.old _ old (c.after.ensures h v q g) (ap not c.is_closed.ensures.fields)
