-- The digits that are left go on to the number of them all.
use Rattle.std.proofs.Common.{◌≡◌, drop}
use Rattle.scope_pick.specs.Splits.{index_from}
use Rattle.scope_pick.proofs.index.index_from_zero.Given as goal

abbrev pub invariant-loop-byte : goal.invariant-loop-byte
invariant-loop-byte l = index_from l.number (drop l.byte-index l.word) ≡ index_from 0 l.word
