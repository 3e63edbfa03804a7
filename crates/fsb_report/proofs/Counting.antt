-- How many requests begin, one clock on.
use Rattle.std.proofs.Common.{ℕ, zero, suc, ◌+◌, ◌≤◌, ◌≡◌, Bool, cond, Option, refl, arith, add-one}
use Rattle.fsb_count.specs.Clocks.{count_where}
use Rattle.fsb_count.proofs.Interface.{cond-most, count_where-more}
use Rattle.fsb_encode.specs.declared.request.Request.{Request}
use Rattle.fsb_trace.specs.At.{Trace}
use Rattle.fsb_report.specs.RequestCounts.{request_begun_at, count_begun}

pub count_begun-start : (test : Option Request → Bool) (w : Trace) → count_begun test w 0 ≡ 0
unfolding count_begun count_where
count_begun-start test w = refl

pub count_begun-more : (test : Option Request → Bool) (w : Trace) (n : ℕ)
    → count_begun test w (n + 1) ≡ count_begun test w n + cond (test (request_begun_at w n)) 1 0
unfolding count_begun
count_begun-more test w n = count_where-more (λ q. test (request_begun_at w q)) n

-- no more than there are clocks
pub count_begun-most : (test : Option Request → Bool) (w : Trace) (n : ℕ) → count_begun test w n ≤ n
count_begun-most test w zero = rw count_begun-start (omega arith)
count_begun-most test w (suc n) =
    let more = count_begun-more test w n in
    let less = count_begun-most test w n in
    let one = cond-most (test (request_begun_at w n)) in
    rw (← add-one) (omega arith)
