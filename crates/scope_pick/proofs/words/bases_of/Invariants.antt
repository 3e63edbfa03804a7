-- The numbers that are kept so far are those of their words.
use Rattle.scope_pick.specs.Words.{AreBases}
use Rattle.scope_pick.proofs.words.bases_of.Given as goal

abbrev pub invariant-loop-bit : goal.invariant-loop-bit
invariant-loop-bit l = AreBases l.bases l.bits
