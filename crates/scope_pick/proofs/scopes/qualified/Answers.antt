use Rattle.scope_pick.proofs.Within.{qualified-within}
use Rattle.scope_pick.proofs.scopes.qualified.Goals as goal

pub returns : goal.returns
returns c = rw (qualified-within c.in_ok-groups.groups c.args.names.now c.args.settled.now c.in_ok-groups.ensures) at c.qualified_among.ensures
