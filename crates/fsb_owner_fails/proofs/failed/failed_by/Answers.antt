use Rattle.fsb_owner_fails.proofs.FailedRows.{fails_none, fails_some}
use Rattle.fsb_owner_fails.proofs.failed.failed_by.Goals as goal

pub returns-then-is_failed : goal.returns-then-is_failed
returns-then-is_failed c = λ v s j q line k g. fails_some g c.line_for.result line c.if-is_failed.ensures (c.line_for.ensures v s j q line k g)

pub returns-else-is_failed : goal.returns-else-is_failed
returns-else-is_failed c = λ v s j q line k g. fails_none g line c.if-is_failed.ensures
