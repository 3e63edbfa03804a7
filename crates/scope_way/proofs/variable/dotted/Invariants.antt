-- The text so far, and what is left of the words, are all of them.
use Rattle.std.proofs.Common.{◌≡◌, ◌++◌, length}
use Rattle.scope_way.specs.Variables.{dotted}
use Rattle.scope_way.specs.Variables.{words_told}
use Rattle.scope_way.proofs.variable.dotted.Given as goal

abbrev pub invariant-loop-scope : goal.invariant-loop-scope
invariant-loop-scope l = l.text.items ++ dotted (words_told l.rest) ≡ dotted (words_told l.fn.path)

abbrev pub decreases-loop-scope : goal.decreases-loop-scope
decreases-loop-scope l = length l.rest
