use Rattle.fsb_owner_run.proofs.Coherent.{coherent-run}
use Rattle.fsb_owner_run.proofs.laws.runs_are_coherent.Goals as goal

pub returns : goal.returns
returns c = coherent-run
