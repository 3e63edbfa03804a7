use Rattle.std.proofs.Common.{rules}
use Rattle.fsb_owner_table.proofs.KeptLists.{rows_taken}
use Rattle.fsb_owner_table.proofs.rows.Rows.take.Goals as goal

pub returns : goal.returns
returns c = λ h v g s.
    record { kept = rows_taken g _ _ _ s.kept (c.keep_rows.ensures h v g s.kept) c.in_ok-add_row.ensures }
