use Rattle.std.proofs.Common.{ℕ, ◌<◌, ◌≤◌, ◌≡◌, Bool}
use Rattle.fsb_count.specs.Clocks.{count_where, from_clock}
use Rattle.fsb_table.proofs.search.nth_from.Given as goal

-- so many have passed from the first clock on
abbrev pub invariant-loop-c : goal.invariant-loop-c
invariant-loop-c g l = record {
  low : l.first ≤ l.c;
  before : l.passed ≤ l.k;
  count : (p : ℕ → Bool) →
      ((k : ℕ) (b : Bool) → k < l.n → g.F.Fn.post l.test (k, tt) b → b ≡ p k) → l.passed ≡ count_where
      (from_clock l.first p) l.c;
}
