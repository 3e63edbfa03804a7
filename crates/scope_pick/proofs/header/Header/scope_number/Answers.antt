use Rattle.std.proofs.Common.{◌∙◌, ap, unwrap_or}
use Rattle.scope_pick.specs.Numbering.{scope_number}
use Rattle.scope_pick.proofs.Firsts.{scope-placed}
use Rattle.scope_pick.proofs.header.Header.scope_number.Goals as goal

pub returns : goal.returns
unfolding scope_number
returns c =
    c.unwrap_or.ensures
    ∙ ap (λ o. unwrap_or o c.args.index)
    (c.kept_at.ensures ∙ c.self.invariant.by_scope c.deref.result.now
    ∙ scope-placed c.self.inside.variables.now c.args.self.now c.args.variable.now c.deref.result.now c.self.view_is
    c.deref.ensures.value)
