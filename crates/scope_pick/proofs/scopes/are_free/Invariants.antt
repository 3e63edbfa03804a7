use Rattle.std.proofs.Common.{◌≡◌, true, take}
use Rattle.std.specs.List.{list_all}
use Rattle.scope_pick.specs.Scopes.{is_free}
use Rattle.scope_pick.proofs.scopes.are_free.Given as goal

abbrev pub invariant-loop-line : goal.invariant-loop-line
invariant-loop-line l = list_all (is_free l.settled) (take l.line-index l.lines) ≡ true
