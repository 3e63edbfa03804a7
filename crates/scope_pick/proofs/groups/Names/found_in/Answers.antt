use Rattle.std.proofs.Common.{◌∙◌, ap}
use Rattle.scope_pick.specs.Groups.{in_scope}
use Rattle.scope_pick.specs.Scopes.{found_in}
use Rattle.scope_pick.proofs.Within.{found-within}
use Rattle.scope_pick.proofs.groups.Names.found_in.Goals as goal

pub returns : goal.returns
returns c =
    c.found_in.ensures
    ∙ ap (λ ns. found_in ns c.args.scope c.args.line)
    (c.group_at.ensures ∙ c.self.invariant c.args.scope ∙ ap (in_scope c.args.scope) c.self.view_is)
    ∙ found-within c.args.self.now c.args.scope c.args.line
