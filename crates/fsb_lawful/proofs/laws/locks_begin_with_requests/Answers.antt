use Rattle.fsb_lawful.proofs.BusLock.{keeps-9}
use Rattle.fsb_lawful.proofs.laws.locks_begin_with_requests.Goals as goal

pub returns : goal.returns
returns c = keeps-9
