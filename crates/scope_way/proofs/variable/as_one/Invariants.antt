-- The text so far, and what is left of the words, are all of them.
use Rattle.std.proofs.Common.{◌≡◌, ◌++◌, length}
use Rattle.vcd_way.specs.Declarations.{as_one}
use Rattle.scope_way.specs.Variables.{words_told}
use Rattle.scope_way.proofs.variable.as_one.Given as goal

abbrev pub invariant-loop-word : goal.invariant-loop-word
invariant-loop-word l = l.text.items ++ as_one (words_told l.rest) ≡ as_one (words_told l.fn.words)

abbrev pub decreases-loop-word : goal.decreases-loop-word
decreases-loop-word l = length l.rest
