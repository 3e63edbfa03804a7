use Rattle.fsb_run_laws.proofs.LastPuts.{put-new, put-stays}
use Rattle.fsb_run_laws.proofs.lines.last_puts_step.Goals as goal

pub returns-clause-kept : goal.returns-clause-kept
returns-clause-kept c = put-stays

pub returns-clause-put : goal.returns-clause-put
returns-clause-put c = put-new
