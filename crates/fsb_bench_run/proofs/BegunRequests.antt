-- The request that began at a clock of a run is decoded there, as soon as its second clock is there; and it stays.
use Rattle.fsb_bench_run.proofs.Words
use Words.{ℕ, suc, ◌+◌, ◌<◌, ◌≡◌, true, Some, length, sym, ◌∙◌, arith, Request, is_lawful_request, ADS, request_at, Who}
use Words.{line_at-agree, request_at-agree, winner_at-agree, GrowsTo, Run, run_to, request_begun, Timely, run_to-agrees}
use Words.{KeepsBounds, begun-decoded, begun_of, wants-lawfully, agree-grown, IsBegunAt}

-- what began is what the winner would begin
pub begun-is : (r : Run) (q : ℕ) (who : Who) (request : Request) → q < length r.trace → IsBegunAt r q who request
    → begun_of r q ≡ Some request
unfolding request_begun
begun-is r q who request l k = grind (arith, winner_at-agree, run_to-agrees)

-- it is lawful
pub begun-lawful : (r : Run) (q : ℕ) (who : Who) (request : Request) → KeepsBounds r.plan → q < length r.trace
    → IsBegunAt r q who request → is_lawful_request request ≡ true
begun-lawful r q who request bounds l k = (wants-lawfully r bounds).lawful q request (begun-is r q who request l k)

-- and it is decoded from its two clocks
pub begun-request : (r : Run) (q : ℕ) (who : Who) (request : Request) → Timely r → KeepsBounds r.plan
    → suc q < length r.trace → IsBegunAt r q who request → request_at r.trace q ≡ Some request
begun-request r q who request timely bounds l k =
    let v = (run_to r q).trace in
    let here = sym (line_at-agree ADS (q + 1) r.trace v q (run_to-agrees r q (omega arith)) (omega arith)) ∙ k.begins in
    grind (arith, begun-decoded, begun-is, begun-lawful, request_at-agree, run_to-agrees)

-- it stays as the run grows
pub request-grown : (r s : Run) (q : ℕ) → GrowsTo r s → suc q < length r.trace
    → request_at s.trace q ≡ request_at r.trace q
request-grown r s q grows l = grind (arith, request_at-agree, agree-grown)
