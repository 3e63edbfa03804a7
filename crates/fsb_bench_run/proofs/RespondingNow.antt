-- The request that responds at the next clock: its snoop end, and what it serves.
use Rattle.fsb_bench_run.proofs.Words
use Words.{ℕ, ◌+◌, ◌≤◌, ◌≡◌, ◌≢◌, Some, List, length, sym, ap, subst, ◌∙◌, arith, slice_get, option_and_then}
use Words.{responded_in, snoop_end_below, is_some_and, KeepsBounds, HoldsRequests, agree-back, longer, snooped-same}
use Words.{Entry, Reaches, replied-on, snoop-below, answered, begun-shown, begun-want, live-at, live-request}
use Words.{orderly-whole, responded-number, GrowsTo, served_number, turns_in, SnoopEnd, Run, past_of, IsSnoopOf}
use Words.{snoop-tied, request_at, is_reply, live_clock_of, live_number_of, snoop_end_of, Replied, Who, Symmetric}
use Words.{Priority, live_clock_of-rises, live_clock_of-stays, snoop_end_of-clock, snoop_end_of-stays, Served}
use Words.{IsBegunAt, IsServed}
use Rattle.fsb_bench_run.proofs.BegunEvents.{begun-claim}
use Rattle.fsb_bench_run.proofs.BegunRequests.{begun-request}
use Rattle.fsb_bench_run.proofs.EndHeard.{itself-served}
use Rattle.fsb_bench_run.proofs.SnoopHeard.{answered-of, reply-serves}
use Rattle.fsb_bench_run.proofs.SnoopResult.{begun-reply-kind}
use Rattle.fsb_bench_run.proofs.StartingNow.{and-some}

-- the entry whose request responds at the next clock, with its snoop end
pub record IsResponding (r s : Run) (e : Entry) : Type 0 where
  pub number : ℕ
  pub rank : live_number_of r.trace e.clock ≡ number
  pub old : live_clock_of r.trace number ≡ Some e.clock
  pub snoop : ℕ
  pub before : snoop + 2 ≤ length r.trace
  pub above : e.clock + 4 ≤ snoop
  pub end : SnoopEnd
  pub tied : IsSnoopOf r number snoop end
  pub first : end.first ≡ e.clock
  pub snooped : snoop_end_below (past_of s) (length r.trace + 1) e.clock ≡ Some end

one-of : (a b : ℕ) → Some a ≡ Some b → a ≡ b
one-of a b e = cc

-- a request with its snoop end two clocks before the next clock
responding-from : (r s : Run) (e : Entry) (i t : ℕ) → GrowsTo r s → Reaches s (length r.trace + 1)
    → live_clock_of s.trace i ≡ Some e.clock → snoop_end_of s.trace i ≡ Some t → t + 2 ≤ length r.trace
    → IsResponding r s e
responding-from r s e i t grows h first reached before =
    let n = length r.trace in
    let c = snoop_end_of-clock s.trace i t reached in
    let same : c.clock ≡ e.clock = one-of c.clock e.clock (sym c.is_clock ∙ first) in
    let above = c.above in
    let back = agree-back r s grows in
    let old = live_clock_of-stays n s.trace r.trace i e.clock back (omega arith) first in
    let tied = snoop-tied r i t (snoop_end_of-stays n s.trace r.trace i t back (omega arith) reached) in
    let mine = one-of tied.0.first e.clock (sym tied.1.first ∙ old) in
    let there = sym (snooped-same r s t grows (omega arith)) ∙ tied.1.there in
    record {
      number = i;
      rank = (live-at r.trace i e.clock old).number;
      old = old;
      snoop = t;
      before = before;
      above = omega arith;
      end = tied.0;
      tied = tied.1;
      first = mine;
      snooped = subst (λ q. snoop_end_below (past_of s) (n + 1) q ≡ Some tied.0) mine
          (snoop-below s n t tied.0 h (omega arith) there);
    }

pub responding-of : (r s : Run) (e : Entry) → GrowsTo r s → Reaches s (length r.trace + 1)
    → responded_in (past_of s) (length r.trace) ≡ Some e.clock → IsResponding r s e
responding-of r s e grows h responds =
    let n = length r.trace in
    let size = longer r s grows in
    let m = responded-number s n e.clock h.timely (omega arith) responds in
    let a = answered s.trace m.0 n (orderly-whole s n h.timely (omega arith)) m.1.response in
    responding-from r s e m.0 a.snoop grows h m.1.first a.is_snoop a.before

-- its outcome is settled
pub responding-settled : (r s : Run) (queue : List Entry) (k : ℕ) (e : Entry) → HoldsRequests queue r
    → slice_get queue k ≡ Some e → (d : IsResponding r s e) → e.outcome ≡ Some d.end.outcome
responding-settled r s queue k e f at d = grind arith

-- a request that is no reply serves itself: so does each with another outcome than that of a reply
pub serves-itself : (r s : Run) (e : Entry) (served : Served) (who : Who) → GrowsTo r s → KeepsBounds r.plan
    → (d : IsResponding r s e) → IsBegunAt r e.clock who e.request → IsServed r e served → d.end.outcome ≢ Replied
    → served.first ≡ e.clock
unfolding is_reply is_some_and
serves-itself r s e served (Symmetric agent) grows bounds d begun is other =
    let q : ℕ = e.clock in
    let turns = turns_in (past_of r).moments in
    let above = d.above in
    let before = d.before in
    let b = begun-claim r q agent e.request (omega arith) begun in
    let want = begun-want r q b.0 grows.timely bounds (omega arith) b.1 in
    let shown = begun-shown r q b.0 grows.timely bounds (omega arith) want in
    let plain = ap (λ o. is_reply o) (live-request r.trace d.number q d.old ∙ shown) ∙ want.no_reply in
    let itself : served_number r.trace turns (live_number_of r.trace q) ≡ Some d.number =
    ap (served_number r.trace turns) d.rank ∙ itself-served r.trace turns d.number plain in
    one-of served.first q (sym is.first ∙ ap (option_and_then (live_clock_of r.trace)) itself ∙ d.old)
serves-itself r s e served Priority grows bounds d begun is other =
    let w = r.trace in
    let q : ℕ = e.clock in
    let turns = turns_in (past_of r).moments in
    let above = d.above in
    let before = d.before in
    let kind = begun-reply-kind r q e.request begun in
    let decoded = begun-request r q Priority e.request grows.timely bounds (omega arith) begun in
    let replies = ap (λ o. is_reply o) (ap (request_at w) d.first ∙ decoded) ∙ kind in
    let j = and-some (live_clock_of w) (served_number w turns (live_number_of w q)) served.first is.first in
    let serves : served_number w turns d.number ≡ Some j.0 = ap (served_number w turns) (sym d.rank) ∙ j.1 in
    let live = ap (λ o. is_reply o) (live-request w d.number q d.old ∙ decoded) ∙ kind in
    let low = (answered-of w turns d.number j.0 live serves).0 in
    let rise = live_clock_of-rises w j.0 d.number served.first q low j.2 d.old in
    let asks = live-request w j.0 served.first j.2
    ∙ begun-request r served.first (Symmetric served.agent) served.request grows.timely bounds (omega arith) is.begun in
    let short : Reaches r (d.snoop + 1) = record { timely = grows.timely; bounds = bounds; long = omega arith } in
    let g = reply-serves r d.snoop d.number j.0 served.first d.end served.request short d.tied replies serves asks
    j.2 in
    absurd (other (replied-on r d.snoop d.end g.grant short d.tied.there g.unclaimed g.grants).replied)
