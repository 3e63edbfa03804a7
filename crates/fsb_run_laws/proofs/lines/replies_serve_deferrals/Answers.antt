use Rattle.fsb_run_laws.proofs.BroughtLines.{replied-on, serves-deferred}
use Rattle.fsb_run_laws.proofs.lines.replies_serve_deferrals.Goals as goal

pub returns-clause-deferral : goal.returns-clause-deferral
returns-clause-deferral c = replied-on

pub returns-clause-served : goal.returns-clause-served
returns-clause-served c = serves-deferred
