use Rattle.std.proofs.Common.{◌≡◌, length}
use Rattle.rows_store.proofs.samples.trace.Given as goal

-- each clock so far has its sample
abbrev pub invariant-loop-clock : goal.invariant-loop-clock
invariant-loop-clock l = length l.w.items ≡ l.clock-index
