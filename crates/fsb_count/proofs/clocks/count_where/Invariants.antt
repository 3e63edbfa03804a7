use Rattle.std.proofs.Common.{ℕ, ◌<◌, ◌≤◌, ◌≡◌, Bool}
use Rattle.fsb_count.specs.Clocks.{count_where}
use Rattle.fsb_count.proofs.clocks.count_where.Given as goal

abbrev pub invariant-loop-c : goal.invariant-loop-c
invariant-loop-c g l = record {
  most : l.count ≤ l.c;
  count : (p : ℕ → Bool) → ((k : ℕ) (b : Bool) → k < l.n → g.F.Fn.post l.test (k, tt) b → b ≡ p k)
      → l.count ≡ count_where p l.c;
}
