-- The bits so far are kept by their words.
use Rattle.std.proofs.Common.{take}
use Rattle.scope_pick.specs.Words.{AreWords}
use Rattle.scope_pick.proofs.words.words_of.Given as goal

abbrev pub invariant-loop-bit : goal.invariant-loop-bit
invariant-loop-bit l = AreWords l.words (take l.bit-index l.bits)
