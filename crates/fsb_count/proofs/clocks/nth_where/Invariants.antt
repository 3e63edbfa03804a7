use Rattle.std.proofs.Common.{ℕ, ◌<◌, ◌≤◌, ◌≡◌, Bool}
use Rattle.fsb_count.specs.Clocks.{count_where}
use Rattle.fsb_count.proofs.clocks.nth_where.Given as goal

abbrev pub invariant-loop-c : goal.invariant-loop-c
invariant-loop-c g l = record {
  most : l.passed ≤ l.c;
  before : l.passed ≤ l.k;
  count : (p : ℕ → Bool) → ((k : ℕ) (b : Bool) → k < l.n → g.F.Fn.post l.test (k, tt) b → b ≡ p k)
      → l.passed ≡ count_where p l.c;
}
