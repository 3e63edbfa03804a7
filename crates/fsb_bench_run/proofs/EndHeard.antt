-- The end of a request that a bench tells its agents is that of its run.
use Rattle.fsb_bench_run.proofs.Words
use Words.{ℕ, ◌+◌, ◌≡◌, ◌≢◌, true, false, Option, Some, None, List, length, refl, sym, ap, subst, ◌∙◌, arith, both_ways}
use Words.{ne_eqb, number_asked, number_claimed, number_left, number_replied, own-left, replied-left, served-number}
use Words.{snoop_end_below, is_some_and, KeepsBounds, snooped-same, Entry, Reaches, ending-served, ending-serves}
use Words.{replied-outstanding, replied-served, snoop-below, begun-shown, begun-want, deferred-held, held-plain}
use Words.{live-at, live-request, number-ended, orderly-whole, snooped-by, is_end_at, snooped_at, GrowsTo, claim_at}
use Words.{served_number, turns_in, Claim, Grant, Past, SnoopEnd, Run, past_of, IsSnoopOf, going-alike, owed-same}
use Words.{past-goes_on, snoop-tied, Trace, request_at, is_deferral, settled_outcome_of, is_reply, live_clock_of}
use Words.{live_number_of, live_request_of, Outcome, Who, Symmetric, Priority, live_clock_of-rises, Served, IsBegunAt}
use Words.{IsServed}
use Rattle.fsb_bench_run.proofs.BegunEvents.{begun-claim}
use Rattle.fsb_bench_run.proofs.BegunRequests.{begun-request}
use Rattle.fsb_bench_run.proofs.BegunStays.{before-growth}
use Rattle.fsb_bench_run.proofs.EndPlaces.{IsEnding}
use Rattle.fsb_bench_run.proofs.SnoopHeard.{answered-of, claim-told, reply-serves}
use Rattle.fsb_bench_run.proofs.SnoopResult.{begun-reply-kind}
use Rattle.fsb_bench_run.proofs.StartingNow.{and-some}

-- the end that comes at n to what is served, where the request that ends was settled so
pub record IsEndHeard (s : Run) (n : ℕ) (served : Served) (settled : Option Outcome) : Type 0 where
  pub end : SnoopEnd
  pub outcome : settled ≡ Some end.outcome
  pub first : ℕ
  pub ends : is_end_at (past_of s) n first ≡ true
  pub snooped : snoop_end_below (past_of s) (n + 1) first ≡ Some end
  pub left : is_deferral end.outcome ≡ false → number_left (past_of s) served.agent n end ≡ Some served.first
  pub others : (a : ℕ) → a ≢ served.agent → number_left (past_of s) a n end ≡ None
  pub put_off : is_deferral end.outcome ≡ true → (a : ℕ) → number_left (past_of s) a n end ≡ None

-- of whom nothing ends
claimed-other : (p : Past) (a n : ℕ) (s : SnoopEnd) (claim : Claim) → s.claim ≡ Some claim → claim.agent ≢ a
    → number_left p a n s ≡ None
unfolding number_left number_claimed
claimed-other p a n s claim claims other = rw (claims, ne_eqb claim.agent a other, number_left) refl

claimed-deferred : (p : Past) (a n : ℕ) (s : SnoopEnd) (claim : Claim) → s.claim ≡ Some claim
    → is_deferral s.outcome ≡ true → number_left p a n s ≡ None
unfolding number_left number_claimed
claimed-deferred p a n s claim claims put_off = grind arith

replied-other : (p : Past) (a n : ℕ) (s : SnoopEnd) (grant : Grant) → s.claim ≡ None → s.grant ≡ Some grant
    → grant.agent ≢ a → number_left p a n s ≡ None
unfolding number_left number_replied
replied-other p a n s grant none makes other = rw (none, makes, ne_eqb grant.agent a other, number_left) refl

pub itself-served : (w : Trace) (turns : List ℕ) (i : ℕ) → is_reply (live_request_of w i) ≡ false
    → served_number w turns i ≡ Some i
unfolding served_number
itself-served w turns i plain = rw (plain, served_number) refl

pub asked-same : (p q : Past) (a c line : ℕ)
    → Rattle.fsb_timely.specs.Wants.owed p a c ≡ Rattle.fsb_timely.specs.Wants.owed q a c
    → number_asked p a c line ≡ number_asked q a c line
unfolding number_asked
asked-same p q a c line e = grind arith

one-of : (a b : ℕ) → Some a ≡ Some b → a ≡ b
one-of a b e = cc

one-agent : (a b : ℕ) → Some (Symmetric a) ≡ Some (Symmetric b) → a ≡ b
one-agent a b e = cc

-- the snoop end of the request that ends, in the longer run
record HasItsSnoop (r s : Run) (e : Entry) (d : IsEnding r s e) : Type 0 where
  end : SnoopEnd
  tied : IsSnoopOf r d.number d.snoop end
  first : end.first ≡ e.clock
  there : snooped_at (past_of s) d.snoop ≡ Some end
  ends : is_end_at (past_of s) (length r.trace) e.clock ≡ true
  snooped : snoop_end_below (past_of s) (length r.trace + 1) e.clock ≡ Some end

its-snoop : (r s : Run) (e : Entry) → GrowsTo r s → Reaches s (length r.trace + 1) → (d : IsEnding r s e)
    → HasItsSnoop r s e d
its-snoop r s e grows h d =
    let n = length r.trace in
    let long = h.long in
    let before = d.before in
    let upto = d.upto in
    let tied = snoop-tied r d.number d.snoop d.settled in
    let first = one-of tied.0.first e.clock (sym tied.1.first ∙ d.old) in
    let there = sym (snooped-same r s d.snoop grows (omega arith)) ∙ tied.1.there in
    record {
      end = tied.0;
      tied = tied.1;
      first = first;
      there = there;
      ends = number-ended s d.number n e.clock (omega arith) (orderly-whole s n h.timely (omega arith))
          (record { end = d.end; first = d.first });
      snooped = subst (λ q. snoop_end_below (past_of s) (n + 1) q ≡ Some tied.0) first
          (snoop-below s n d.snoop tied.0 h (omega arith) there);
    }

end-by : (r s : Run) (e : Entry) (served : Served) (who : Who) → GrowsTo r s → Reaches s (length r.trace + 1)
    → KeepsBounds r.plan → (d : IsEnding r s e)
    → e.outcome ≡ settled_outcome_of r.trace (turns_in (past_of r).moments) d.number
    → IsBegunAt r e.clock who e.request → IsServed r e served → IsEndHeard s (length r.trace) served e.outcome
unfolding is_reply is_some_and
end-by r s e served (Symmetric agent) grows h bounds d told begun is =
    let n = length r.trace in
    let p = past_of s in
    let q : ℕ = e.clock in
    let turns = turns_in (past_of r).moments in
    let above = d.above in
    let before = d.before in
    let upto = d.upto in
    let k = its-snoop r s e grows h d in
    let b = begun-claim r q agent e.request (omega arith) begun in
    let claims = k.tied.claim ∙ ap (claim_at r.trace) k.first ∙ claim-told r q b.0 (omega arith) begun.begins b.1 in
    let want = begun-want r q b.0 grows.timely bounds (omega arith) b.1 in
    let shown = begun-shown r q b.0 grows.timely bounds (omega arith) want in
    let plain = ap (λ o. is_reply o) (live-request r.trace d.number q d.old ∙ shown) ∙ want.no_reply in
    let itself : served_number r.trace turns (live_number_of r.trace q) ≡ Some d.number =
    ap (served_number r.trace turns) d.rank ∙ itself-served r.trace turns d.number plain in
    let first : served.first ≡ q = grind arith in
    let won = subst (λ x. IsBegunAt r x (Symmetric served.agent) served.request) first is.begun in
    let mine : b.0.agent ≡ served.agent = b.2 ∙ one-agent agent served.agent (sym begun.winner ∙ won.winner) in
    record {
      end = k.end;
      outcome = told ∙ k.tied.outcome;
      first = q;
      ends = k.ends;
      snooped = k.snooped;
      left = λ kept. own-left p served.agent n k.end b.0 claims mine kept ∙ ap (λ x. Some x) (k.first ∙ sym first);
      others = λ a off. claimed-other p a n k.end b.0 claims (λ same. off (sym same ∙ mine));
      put_off = λ deferred a. claimed-deferred p a n k.end b.0 claims deferred;
    }
end-by r s e served Priority grows h bounds d told begun is =
    let n = length r.trace in
    let p = past_of s in
    let w = r.trace in
    let q : ℕ = e.clock in
    let turns = turns_in (past_of r).moments in
    let above = d.above in
    let before = d.before in
    let upto = d.upto in
    let long = h.long in
    let k = its-snoop r s e grows h d in
    let kind = begun-reply-kind r q e.request begun in
    let decoded = begun-request r q Priority e.request grows.timely bounds (omega arith) begun in
    let replies = ap (λ o. is_reply o) (ap (request_at w) k.first ∙ decoded) ∙ kind in
    let j = and-some (live_clock_of w) (served_number w turns (live_number_of w q)) served.first is.first in
    let serves : served_number w turns d.number ≡ Some j.0 = ap (served_number w turns) (sym d.rank) ∙ j.1 in
    let low = (answered-of w turns d.number j.0
    (ap (λ o. is_reply o) (live-request w d.number q d.old ∙ decoded) ∙ kind)
    serves).0 in
    let rise = live_clock_of-rises w j.0 d.number served.first q low j.2 d.old in
    let asks = live-request w j.0 served.first j.2
    ∙ begun-request r served.first (Symmetric served.agent) served.request grows.timely bounds (omega arith) is.begun in
    let short : Reaches r (d.snoop + 1) = record { timely = grows.timely; bounds = bounds; long = omega arith } in
    let g = reply-serves r d.snoop d.number j.0 served.first k.end served.request short k.tied replies serves
    asks j.2 in
    let grant : Grant = g.grant in
    let a : ℕ = grant.agent in
    let mine : grant.agent ≡ served.agent = grind arith in
    let alike = going-alike n (past_of r) p (past-goes_on r s grows.next (before-growth r s grows)) in
    let asked = sym (asked-same (past_of r) p a d.snoop grant.line
    (owed-same n (past_of r) p a d.snoop alike (omega arith)))
    ∙ g.asked in
    let under : Reaches s (d.snoop + 1) = record { timely = h.timely; bounds = h.bounds; long = omega arith } in
    let old = replied-outstanding s d.snoop k.end grant under k.there g.unclaimed g.grants in
    let old_asked = served-number s d.snoop grant under old in
    let old_served = replied-served s d.snoop d.number k.end grant under k.there g.unclaimed g.grants d.reached in
    let new = ending-serves s n q k.end grant h k.ends k.snooped g.unclaimed g.grants in
    let new_served = ending-served s n q k.end grant h k.ends k.snooped g.unclaimed g.grants in
    let new_asked = served-number s n grant h new.0 in
    let rank = (live-at s.trace d.number q d.first).number in
    let same : Some new.0.end.first ≡ Some served.first = grind arith in
    let left : number_asked p served.agent n grant.line ≡ Some served.first = grind arith in
    record {
      end = k.end;
      outcome = told ∙ k.tied.outcome;
      first = q;
      ends = k.ends;
      snooped = k.snooped;
      left = λ kept. replied-left p served.agent n k.end grant g.unclaimed g.grants mine ∙ left;
      others = λ b off. replied-other p b n k.end grant g.unclaimed g.grants (λ own. off (sym own ∙ mine));
      put_off = λ deferred b.
          absurd (both_ways _ (held-plain e.request.kind
          (deferred-held r d.snoop d.number k.end e.request grows.timely (snooped-by r d.snoop d.number k.end k.tied)
          (ap (request_at w) k.first ∙ decoded) deferred)) kind);
    }

-- the end that a request in flight has at the next clock, where this is what it serves
pub end-heard : (r s : Run) (e : Entry) (served : Served) → GrowsTo r s → Reaches s (length r.trace + 1)
    → KeepsBounds r.plan → (d : IsEnding r s e)
    → e.outcome ≡ settled_outcome_of r.trace (turns_in (past_of r).moments) d.number
    → IsBegunAt r e.clock e.who e.request → IsServed r e served → IsEndHeard s (length r.trace) served e.outcome
end-heard r s e served grows h bounds d told begun is = end-by r s e served e.who grows h bounds d told begun is
