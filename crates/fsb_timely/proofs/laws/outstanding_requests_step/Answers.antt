use Rattle.fsb_timely.proofs.Outstanding.{is_outstanding-more}
use Rattle.fsb_timely.proofs.laws.outstanding_requests_step.Goals as goal

pub returns : goal.returns
returns c = is_outstanding-more
