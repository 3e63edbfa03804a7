use Rattle.fsb_owner_run.proofs.Verdict.{asks-once}
use Rattle.fsb_owner_run.proofs.laws.runs_ask_once.Goals as goal

pub returns : goal.returns
returns c = asks-once
