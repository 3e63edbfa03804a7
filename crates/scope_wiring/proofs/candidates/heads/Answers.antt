use Rattle.scope_wiring.proofs.Best.{heads-within}
use Rattle.scope_wiring.proofs.candidates.heads.Goals as goal

pub returns : goal.returns
returns c = rw (heads-within c.in_ok-groups.groups c.args.names.now c.in_ok-groups.ensures) at c.heads_among.ensures
