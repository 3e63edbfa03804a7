use Rattle.std.proofs.Common.{ℕ, ◌<◌, false}
use Rattle.fsb_count.proofs.clocks.first_where.Given as goal

-- the test has answered false so far
abbrev pub invariant-loop-c : goal.invariant-loop-c
invariant-loop-c g l = (k : ℕ) → k < l.c → g.F.Fn.post l.test (k, tt) false
