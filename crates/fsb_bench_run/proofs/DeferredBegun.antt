-- A request that is Deferred is one that an agent began, and the reply to it grants its line.
use Rattle.fsb_bench_run.proofs.Words
use Words.{ℕ, ◌/◌, ◌≡◌, arith, Request, Symmetric, winner_at-agree, Run, past_of, past_to, request_begun, would_begin}
use Words.{run_to-agrees, KeepsBounds, want-own, IsDeferredAt, IsBegunAt}
use Rattle.fsb_bench_run.proofs.SnoopResult.{begun-reply-kind}

pub would-own : (r : Run) (q a : ℕ) (request : Request) → KeepsBounds r.plan → IsBegunAt r q (Symmetric a) request
    → request.did / 16 ≡ a
unfolding would_begin past_to past_of
would-own r q a request bounds k = (want-own (past_to (past_of r) q) a q request bounds.few_ahead k.wanted).1

pub deferred-begun : (r : Run) (t i : ℕ) → KeepsBounds r.plan → (d : IsDeferredAt r t i)
    → IsBegunAt r d.end.first (Symmetric (d.request.did / 16)) d.request
unfolding request_begun
deferred-begun r t i bounds d = grind (arith, run_to-agrees, winner_at-agree, would-own, begun-reply-kind)
