-- What a request serves that has its snoop end: it stays as the run grows, and it is what the bench hears of a new one.
use Rattle.fsb_bench_run.proofs.Words
use Words.{ℕ, ◌+◌, ◌<◌, ◌≡◌, false, Some, None, length, sym, ap, ◌∙◌, arith, option_and_then, number_asked}
use Words.{served-number, is_some_and, Request, KeepsBounds, agree-grown, longer, snooped-same, Entry, Reaches}
use Words.{replied-outstanding, replied-served, begun-want, live-at, live-request, snooped_at, GrowsTo, served_number}
use Words.{turns_in, Grant, SnoopEnd, Run, past_of, IsSnoopOf, going-alike, owed-same, past-goes_on, request_at}
use Words.{is_reply, is_reply_kind, live_clock_of, live_number_of, snoop_end_of, Who, Symmetric, Priority}
use Words.{live_clock_of-rises, live_clock_of-stays, snoop_end_of-clock, snoop_end_of-stays, Served, SnoopSettled}
use Words.{IsBegunAt, IsServed, clock_served}
use Rattle.fsb_bench_run.proofs.BegunEvents.{begun-claim}
use Rattle.fsb_bench_run.proofs.BegunRequests.{begun-is, begun-request, request-grown}
use Rattle.fsb_bench_run.proofs.BegunStays.{before-growth, begun-stays}
use Rattle.fsb_bench_run.proofs.EndHeard.{asked-same, itself-served}
use Rattle.fsb_bench_run.proofs.SnoopHeard.{IsSnoopHeard, answered-of, reply-serves}
use Rattle.fsb_bench_run.proofs.SnoopResult.{begun-reply-kind}
use Rattle.fsb_bench_run.proofs.StartingNow.{and-some}

one-of : (a b : ℕ) → Some a ≡ Some b → a ≡ b
one-of a b e = cc

-- a live request that is no reply serves itself
serves-itself : (s : Run) (i q : ℕ) → live_clock_of s.trace i ≡ Some q → is_reply (request_at s.trace q) ≡ false
    → clock_served s q ≡ Some q
serves-itself s i q first plain =
    let w = s.trace in
    let turns = turns_in (past_of s).moments in
    ap (λ m. option_and_then (live_clock_of w) (served_number w turns m)) (live-at w i q first).number
    ∙ ap (option_and_then (live_clock_of w))
    (itself-served w turns i (ap (λ o. is_reply o) (live-request w i q first) ∙ plain))
    ∙ first

-- a reply that has its snoop end at t serves what its agent has outstanding there
serves-asked : (s : Run) (t i q : ℕ) (end : SnoopEnd) (grant : Grant) → Reaches s (t + 1)
    → snooped_at (past_of s) t ≡ Some end → end.claim ≡ None → end.grant ≡ Some grant → snoop_end_of s.trace i ≡ Some t
    → live_clock_of s.trace i ≡ Some q → clock_served s q ≡ number_asked (past_of s) grant.agent t grant.line
serves-asked s t i q end grant h there none grants reached first =
    let w = s.trace in
    let turns = turns_in (past_of s).moments in
    let out = replied-outstanding s t end grant h there none grants in
    ap (λ m. option_and_then (live_clock_of w) (served_number w turns m)) (live-at w i q first).number
    ∙ replied-served s t i end grant h there none grants reached ∙ sym (served-number s t grant h out)

-- what a request in flight serves that has its snoop end stays
stays-by : (r s : Run) (i t : ℕ) (e : Entry) (served : Served) (end : SnoopEnd) (who : Who) → GrowsTo r s
    → Reaches s (length r.trace + 1) → KeepsBounds r.plan → IsSnoopOf r i t end → end.first ≡ e.clock
    → t < length r.trace
    → IsBegunAt r e.clock who e.request → IsServed r e served → IsServed s e served
unfolding is_reply is_some_and
stays-by r s i t e served end (Symmetric agent) grows h bounds tied first within begun is =
    let n = length r.trace in
    let q : ℕ = e.clock in
    let c = snoop_end_of-clock r.trace i t tied.reached in
    let above = c.above in
    let old : live_clock_of r.trace i ≡ Some q = tied.first ∙ ap (λ x. Some x) first in
    let same : c.clock ≡ q = one-of c.clock q (sym c.is_clock ∙ old) in
    let b = begun-claim r q agent e.request (omega (arith, same)) begun in
    let want = begun-want r q b.0 grows.timely bounds (omega (arith, same)) b.1 in
    let request : want.request ≡ e.request = one-request want.request e.request
    (sym want.begins ∙ begun-is r q (Symmetric agent) e.request (omega (arith, same)) begun) in
    let decoded = begun-request r q (Symmetric agent) e.request grows.timely bounds (omega (arith, same)) begun in
    let plain : is_reply_kind e.request.kind ≡ false = grind arith in
    let mine : served.first ≡ q = grind (arith, serves-itself) in
    let now = live_clock_of-stays n r.trace s.trace i q (agree-grown r s grows) (omega (arith, same)) old in
    let shown = request-grown r s q grows (omega (arith, same)) ∙ decoded in
    record {
      first = serves-itself s i q now (ap (λ o. is_reply o) shown ∙ plain) ∙ ap (λ x. Some x) (sym mine);
      begun = begun-stays r s served.first (Symmetric served.agent) served.request grows
          (omega (arith, same, mine)) is.begun;
    }
  where
    one-request : (a b : Request) → Some a ≡ Some b → a ≡ b
    one-request a b e = cc
stays-by r s i t e served end Priority grows h bounds tied first within begun is =
    let n = length r.trace in
    let w = r.trace in
    let p = past_of s in
    let q : ℕ = e.clock in
    let turns = turns_in (past_of r).moments in
    let size = longer r s grows in
    let c = snoop_end_of-clock w i t tied.reached in
    let above = c.above in
    let old : live_clock_of w i ≡ Some q = tied.first ∙ ap (λ x. Some x) first in
    let same : c.clock ≡ q = one-of c.clock q (sym c.is_clock ∙ old) in
    let kind = begun-reply-kind r q e.request begun in
    let decoded = begun-request r q Priority e.request grows.timely bounds (omega (arith, same)) begun in
    let replies = ap (λ o. is_reply o) (ap (request_at w) first ∙ decoded) ∙ kind in
    let rank = (live-at w i q old).number in
    let j = and-some (live_clock_of w) (served_number w turns (live_number_of w q)) served.first is.first in
    let serves : served_number w turns i ≡ Some j.0 = ap (served_number w turns) (sym rank) ∙ j.1 in
    let low = (answered-of w turns i j.0 (ap (λ o. is_reply o) (live-request w i q old ∙ decoded) ∙ kind) serves).0 in
    let rise = live_clock_of-rises w j.0 i served.first q low j.2 old in
    let asks = live-request w j.0 served.first j.2
    ∙ begun-request r served.first (Symmetric served.agent) served.request grows.timely bounds
    (omega (arith, same)) is.begun in
    let short : Reaches r (t + 1) = record { timely = grows.timely; bounds = bounds; long = omega arith } in
    let g = reply-serves r t i j.0 served.first end served.request short tied replies serves asks j.2 in
    let grant : Grant = g.grant in
    let a : ℕ = grant.agent in
    let alike = going-alike n (past_of r) p (past-goes_on r s grows.next (before-growth r s grows)) in
    let under : Reaches s (t + 1) = record { timely = h.timely; bounds = h.bounds; long = omega arith } in
    let there = sym (snooped-same r s t grows within) ∙ tied.there in
    let reached = snoop_end_of-stays n w s.trace i t (agree-grown r s grows) within tied.reached in
    let now = live_clock_of-stays n w s.trace i q (agree-grown r s grows) (omega (arith, same)) old in
    record {
      first = serves-asked s t i q end grant under there g.unclaimed g.grants reached now
          ∙ sym (asked-same (past_of r) p a t grant.line (owed-same n (past_of r) p a t alike (omega arith))) ∙ g.asked;
      begun = begun-stays r s served.first (Symmetric served.agent) served.request grows (omega (arith, same)) is.begun;
    }

pub served-stays : (r s : Run) (i t : ℕ) (e : Entry) (served : Served) (end : SnoopEnd) → GrowsTo r s
    → Reaches s (length r.trace + 1) → KeepsBounds r.plan → IsSnoopOf r i t end → end.first ≡ e.clock
    → t < length r.trace
    → IsBegunAt r e.clock e.who e.request → IsServed r e served → IsServed s e served
served-stays r s i t e served end grows h bounds tied first within begun is =
    stays-by r s i t e served end e.who grows h bounds tied first within begun is

-- what the request serves whose snoop end is heard at n
pub served-now : (s : Run) (n i : ℕ) (x : SnoopSettled) → Reaches s (n + 1) → (k : IsSnoopHeard s n x)
    → snoop_end_of s.trace i ≡ Some n → live_clock_of s.trace i ≡ Some x.entry.clock
    → clock_served s x.entry.clock ≡ Some x.served.first
unfolding is_reply is_some_and
served-now s n i x h k reached first = grind (arith, serves-itself, serves-asked)
