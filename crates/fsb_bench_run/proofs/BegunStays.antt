-- A request that has begun stays as a run grows, and is lawful.
use Rattle.fsb_bench_run.proofs.Words
use Words.{ℕ, ◌<◌, ◌≡◌, true, Some, length, arith, take-append-le, Request, is_lawful_request, KeepsBounds}
use Words.{wants-lawfully, agree-grown, GrowsTo, IsWhole, Past, Run, past_of, past_to, run_to, due_number}
use Words.{request_begun, would_begin, past-same, Who, line_at-agree, winner_at-agree, IsBegunAt}
use Rattle.fsb_lawful.proofs.Interface.{run_to-agrees}

pub before-growth : (r s : Run) → GrowsTo r s → IsWhole r
before-growth r s grows = record { one_hold = grows.timely.one_hold; one_choice = grows.timely.one_choice }

-- the samples up to an earlier clock
pub trace-to : (r s : Run) (q : ℕ) → GrowsTo r s → q < length r.trace → (run_to s q).trace ≡ (run_to r q).trace
unfolding run_to
trace-to r s q grows l = grind (arith, take-append-le)

-- what an agent would begin rests on the samples and the past
pub would-same : (r s : Run) (p : Past) (q : ℕ) (who : Who) → s.trace ≡ r.trace
    → would_begin s p q who ≡ would_begin r p q who
unfolding would_begin due_number
would-same r s p q who h1 = grind arith

pub begun-stays : (r s : Run) (q : ℕ) (who : Who) (request : Request) → GrowsTo r s → q < length r.trace
    → IsBegunAt r q who request → IsBegunAt s q who request
begun-stays r s q who request grows l b =
    grind (arith, agree-grown, past-same, line_at-agree, winner_at-agree, would-same, trace-to)

-- what begins is what the winner would begin
pub begun-request : (r : Run) (q : ℕ) (who : Who) (request : Request) → q < length r.trace → IsBegunAt r q who request
    → request_begun (run_to r q) (past_to (past_of r) q) q ≡ Some request
unfolding request_begun
begun-request r q who request l b = grind (arith, run_to-agrees, winner_at-agree)

-- so it is lawful
pub begun-lawful : (r : Run) (q : ℕ) (who : Who) (request : Request) → KeepsBounds r.plan → q < length r.trace
    → IsBegunAt r q who request → is_lawful_request request ≡ true
begun-lawful r q who request bounds l b =
    (wants-lawfully r bounds).lawful q request (begun-request r q who request l b)
