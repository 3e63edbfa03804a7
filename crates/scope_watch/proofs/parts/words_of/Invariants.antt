-- The copies so far and the words that are left are all words.
use Rattle.std.proofs.Common.{◌≡◌, ◌++◌, length}
use Rattle.vcd_header.specs.Told.{words_told}
use Rattle.scope_watch.proofs.parts.words_of.Given as goal

abbrev pub invariant-loop-word : goal.invariant-loop-word
invariant-loop-word l = words_told l.copies.items ++ words_told l.rest ≡ words_told l.fn.words

abbrev pub decreases-loop-word : goal.decreases-loop-word
decreases-loop-word l = length l.rest
