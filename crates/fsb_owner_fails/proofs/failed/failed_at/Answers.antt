use Rattle.fsb_count.specs.Options.{is_at}
use Rattle.fsb_owner_fails.proofs.FailedRows.{at_none, at_some}
use Rattle.fsb_owner_fails.proofs.failed.failed_at.Goals as goal

pub returns-in-Some : goal.returns-in-Some
returns-in-Some c =
    λ v line k.
    at_some v c.args.clock c.in-Some.row (is_at c.failed_by.result line) line (c.in-Some.ensures v k)
    (λ j q g. c.failed_by.ensures v c.args.clock j q line k g)

pub returns-in-None : goal.returns-in-None
returns-in-None c = λ v line k. at_none v c.args.clock line (c.in-None.ensures v k)
