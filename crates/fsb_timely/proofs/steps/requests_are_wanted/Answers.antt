use Rattle.fsb_timely.proofs.WantedRequests.{winner-wants}
use Rattle.fsb_timely.proofs.steps.requests_are_wanted.Goals as goal

pub returns : goal.returns
returns c = winner-wants
