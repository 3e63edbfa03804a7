use Rattle.fsb_owner_run.proofs.Verdict.{none-broken-empty, none-broken-unknown, unbroken}
use Rattle.fsb_owner_run.proofs.laws.runs_keep_ownership.Goals as goal

pub returns-clause-clock : goal.returns-clause-clock
returns-clause-clock c = unbroken

pub returns-clause-empty : goal.returns-clause-empty
returns-clause-empty c = none-broken-empty

pub returns-clause-unknown : goal.returns-clause-unknown
returns-clause-unknown c = none-broken-unknown
