use Rattle.std.proofs.Common.{rules}
use Rattle.fsb_owner_table.proofs.KeptLists.{empty_rows}
use Rattle.fsb_owner_table.proofs.rows.Rows.new.Goals as goal

pub returns : goal.returns
returns c = record { kept = search (rules, empty_rows) }
