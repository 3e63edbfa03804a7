use Rattle.std.proofs.Common.{◌∙◌, ap, unwrap_or}
use Rattle.scope_pick.specs.Numbering.{wire_number}
use Rattle.scope_pick.proofs.Firsts.{code-placed}
use Rattle.scope_pick.proofs.header.Header.wire_number.Goals as goal

pub returns : goal.returns
unfolding wire_number
returns c =
    c.unwrap_or.ensures
    ∙ ap (λ o. unwrap_or o c.args.index)
    (c.kept_at.ensures ∙ c.self.invariant.by_code c.deref.result.now
    ∙ code-placed c.self.inside.variables.now c.args.self.now c.args.variable.now c.deref.result.now c.self.view_is
    c.deref.ensures.value)
