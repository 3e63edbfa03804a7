use Rattle.fsb_laws.proofs.OutstandingSteps.{finished-plain, finished-deferred, not_finished-newly}
use Rattle.fsb_laws.proofs.laws.outstanding_requests_go_on.Goals as goal

pub returns : goal.returns
returns c = record { plain = finished-plain; deferred = finished-deferred; newly = not_finished-newly }
