use Rattle.scope_check.proofs.Interface.{if-err}
use Rattle.scope_parts.proofs.Clocks.{many-broken}
use Rattle.scope_parts.proofs.kept.Kept.add.Goals as goal

pub returns-in_err-self-2-clause-many : goal.returns-in_err-self-2-clause-many
returns-in_err-self-2-clause-many c xs h =
    if-err _ (many-broken c.args.self.now.broken xs c.in_err-self-2.ensures.full h.broken)
