use Rattle.std.proofs.Common.{ℕ, ◌+◌, ◌*◌, ◌<◌, ◌≡◌, nat_eq, false}
use Rattle.fsb_phase.proofs.timing.chunk_from.Given as goal

-- no earlier chunk is due
abbrev pub invariant-loop-n : goal.invariant-loop-n
invariant-loop-n l = (k : ℕ) → k < l.n → nat_eq l.c (l.r + k * (1 + l.gap)) ≡ false
