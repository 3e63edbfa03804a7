use Rattle.scope_wiring.specs.Candidates.{alike}
use Rattle.scope_wiring.proofs.candidates.alike.Goals as goal

pub returns : goal.returns
unfolding alike
returns c = rw c.after_last.ensures.value at c.alike_named.ensures
