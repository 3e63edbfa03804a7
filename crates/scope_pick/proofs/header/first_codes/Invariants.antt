-- The first of each code so far is kept.
use Rattle.std.proofs.Common.{take}
use Rattle.scope_pick.specs.Headers.{AreFirsts, codes_in}
use Rattle.scope_pick.proofs.header.first_codes.Given as goal

abbrev pub invariant-loop-index : goal.invariant-loop-index
invariant-loop-index l = AreFirsts l.firsts (codes_in (take l.index l.variables))
