use Rattle.std.proofs.Common.{refl}
use Rattle.fsb_trace.specs.Winner.{requesters_before, no_requesters, last_agent, last_symmetric}
use Rattle.fsb_arbiter.specs.Arbiter.{lines_back}
use Rattle.fsb_arbiter.proofs.arbiter.Arbiter.new.Goals as goal

pub returns : goal.returns
unfolding lines_back requesters_before no_requesters last_agent last_symmetric
returns c = record { older = refl; newer = refl; last = refl; symmetric = refl }
