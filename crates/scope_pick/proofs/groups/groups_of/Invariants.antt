-- The variables so far are kept by their scopes.
use Rattle.std.proofs.Common.{take}
use Rattle.scope_pick.specs.Groups.{AreGroups}
use Rattle.scope_pick.proofs.groups.groups_of.Given as goal

abbrev pub invariant-loop-name : goal.invariant-loop-name
invariant-loop-name l = AreGroups l.groups (take l.name-index l.names)
