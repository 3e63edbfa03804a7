-- No more clocks pass than there are.
use Rattle.std.proofs.Common.{◌≤◌, ℕ, zero, suc, Bool, arith}
use Rattle.fsb_count.specs.Clocks.{count_where}
use Rattle.fsb_count.proofs.Interface.{cond-most}

pub count_few : (p : ℕ → Bool) (n : ℕ) → count_where p n ≤ n
unfolding count_where
count_few p zero = omega arith
count_few p (suc n) = omega (arith, count_few p n, cond-most (p n))
