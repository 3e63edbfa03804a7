use Rattle.fsb_agent_run.proofs.GrownOwed.{owed-grown}
use Rattle.fsb_agent_run.proofs.owed.bytes_owed_stay_as_runs_grow.Goals as goal

pub returns : goal.returns
returns c = λ r s a n v grows h has. owed-grown r s a n v grows h has
