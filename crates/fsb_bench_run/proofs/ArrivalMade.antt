-- What an agent completes where its line comes is what the run completes by an arrival there.
use Rattle.fsb_bench_run.proofs.Words
use Words.{ℕ, ◌≡◌, true, false, arith, is_arrival, is_hit, Past}

-- an arrival is no hit
pub arrival-unhit : (p : Past) (a n : ℕ) → is_arrival p a n ≡ true → is_hit p a n ≡ false
unfolding is_arrival
arrival-unhit p a n e = grind arith
