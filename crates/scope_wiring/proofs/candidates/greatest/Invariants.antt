-- The greatest of the counts so far.
use Rattle.std.proofs.Common.{◌≡◌, ℕ, nat_le, take}
use Rattle.scope_wiring.specs.Candidates.{is_greatest}
use Rattle.scope_wiring.proofs.candidates.greatest.Given as goal

abbrev pub invariant-loop-count : goal.invariant-loop-count
invariant-loop-count l = (count : ℕ) → is_greatest (take l.count-index l.counts) count ≡ nat_le l.greatest count
