use Rattle.std.proofs.Common.{◌≡◌, true, take}
use Rattle.std.specs.List.{list_all}
use Rattle.scope_pick.specs.Scopes.{is_settled}
use Rattle.scope_pick.proofs.scopes.are_settled.Given as goal

abbrev pub invariant-loop-line : goal.invariant-loop-line
invariant-loop-line l = list_all (is_settled l.names l.settled l.scope) (take l.line-index l.lines) ≡ true
