use Rattle.fsb_lawful.proofs.NewRequests.{keeps-18}
use Rattle.fsb_lawful.proofs.laws.outstanding_requests_are_few.Goals as goal

pub returns : goal.returns
returns c = keeps-18
