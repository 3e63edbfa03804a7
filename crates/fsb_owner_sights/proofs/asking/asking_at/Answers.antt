use Rattle.fsb_owner_table.specs.Rows.{row_at}
use Rattle.fsb_owner_sights.proofs.AskingRows.{begun_none}
use Rattle.fsb_owner_sights.proofs.asking.asking_at.Goals as goal

pub returns-in-None-clause-traced : goal.returns-in-None-clause-traced
returns-in-None-clause-traced c =
    λ v k l. begun_none v c.args.clock (row_at v c.args.clock) (c.in-None.ensures v k l)
