-- The first of each scope so far is kept.
use Rattle.std.proofs.Common.{take}
use Rattle.scope_pick.specs.Headers.{AreFirsts, scopes_in}
use Rattle.scope_pick.proofs.header.first_scopes.Given as goal

abbrev pub invariant-loop-index : goal.invariant-loop-index
invariant-loop-index l = AreFirsts l.firsts (scopes_in (take l.index l.variables))
