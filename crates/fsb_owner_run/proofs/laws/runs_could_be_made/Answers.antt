use Rattle.fsb_owner_run.proofs.Coherent.{could-be-made}
use Rattle.fsb_owner_run.proofs.laws.runs_could_be_made.Goals as goal

pub returns : goal.returns
returns c = could-be-made
