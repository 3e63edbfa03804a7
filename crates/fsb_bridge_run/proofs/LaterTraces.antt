-- A trace that goes on from the samples of a run: what it finds of a list that has the run's deferrals.
use Rattle.fsb_bridge_run.proofs.Words
use Words.{ℕ, zero, suc, ◌+◌, ◌≡◌, Bool, true, false, List, map, Option, Some, None, length, nat_eq, take, refl, sym}
use Words.{subst, ◌∙◌, arith, both_ways, eq-eqb, eqb-true, false_from_ne_true, length-take-le, Request, Trace}
use Words.{request_at, is_answered, is_reply_to, response_clock_of, have_same_id, live_count, live_request_of}
use Words.{AgreeTo-sym, live_request_of-stays, response_clock_of-stays, snoop_end_of-stays, Run, run_to, run_to-agrees}
use Words.{answered, orderly-whole, Reaches, Waiting, with_reply, HaveOwnIds, RespondsInOrder, StandsFor, waiting_at}
use Words.{waits, AreEntriesOf-IsEntryOf, IsEntryOf, IsEntryOf-StandsFor, Matched, after_beginning, after_reply}
use Words.{reply_at, reply_begun, FindsDeferrals, ShowsDeferrals, turns_of}
use Rattle.fsb_bridge_run.proofs.Alike.{SameDeferrals, entry-kept, waiting_at-same, waits-same}
use Rattle.fsb_bridge_run.proofs.BegunReplies.{begun-for, begun-waits}
use Rattle.fsb_bridge_run.proofs.Listed.{AllPass, Matched-into, Matched-map, all_where-pass}
use Rattle.fsb_bridge_run.proofs.OwnIds.{ids-of, one-id, own-ids, same-ids}
use Rattle.fsb_bridge_run.proofs.PriorityReplies.{reply-shown}
use Rattle.fsb_bridge_run.proofs.RepliesAt.{reply_at-agree, reply_at-none, reply_at-parts}
use Rattle.fsb_bridge_run.proofs.ReplySteps.{answered-before, begun-now}
use Rattle.fsb_bridge_run.proofs.RunLists.{own-turns, take-agrees}
use Rattle.fsb_bridge_run.proofs.Waiting.{reply-from, reply-parts, waits-parts}

-- the trace goes on from the run's first n samples: it has the deferrals of the run so far, and the reply that began at
-- the clock before n shows in it
pub record GoesOnFrom (r : Run) (n : ℕ) (w : Trace) (turns : List ℕ) : Type 0 where
  pub same : SameDeferrals n r.trace w (turns_of r) turns
  pub shown : (d : ℕ) → d + 1 ≡ n → reply_at w d ≡ reply_begun r d

-- the run's first n samples have the deferrals of such a trace
cut-with : (r : Run) (n : ℕ) (w : Trace) (turns : List ℕ) → Reaches r n → SameDeferrals n r.trace w (turns_of r) turns
    → SameDeferrals n (take n r.trace) w (turns_of r) turns
cut-with r n w turns h k =
    let cut = take-agrees r.trace n h.long in
    let back = AgreeTo-sym n r.trace (take n r.trace) cut in
    record {
      agree = record { left = cut.right; right = k.agree.right; same = λ c l. back.same c l ∙ k.agree.same c l };
      same = λ i t e l. k.same i t (snoop_end_of-stays n (take n r.trace) r.trace i t back l e) l;
    }

below-entries : (r : Run) (n : ℕ) (w : Trace) (turns : List ℕ) (list : List Waiting) → Reaches r n
    → SameDeferrals n r.trace w (turns_of r) turns → ShowsDeferrals list r n
    → Matched (IsEntryOf (take n r.trace) (turns_of r) n) list (waiting_at w turns n)
below-entries r n w turns list h k has =
    subst (Matched (IsEntryOf (take n r.trace) (turns_of r) n) list)
    (waiting_at-same n (take n r.trace) w (turns_of r) turns n (cut-with r n w turns h k) (omega arith))
    (IsEntryOf-StandsFor list (take n r.trace) (turns_of r) n has)

-- an entry of the run's first n samples in such a trace, by whether a reply is under way there
whole-entry : (r : Run) (n i : ℕ) (w : Trace) (turns : List ℕ) (e : Waiting) (mark : Bool) → Reaches r n
    → SameDeferrals n r.trace w (turns_of r) turns → waits w turns n i ≡ true
    → IsEntryOf (take n r.trace) (turns_of r) n e i → mark ≡ is_answered w n i
    → IsEntryOf w turns n (record e { begun = mark }) i
whole-entry r n i w turns e mark h k waiting entry same =
    let cut = cut-with r n w turns h k in
    entry-kept n (take n r.trace) w (turns_of r) turns n e i mark cut (omega arith)
    (waits-same n (take n r.trace) w (turns_of r) turns n i cut (omega arith) ∙ waiting) entry same

waits-run : (r : Run) (n i : ℕ) (w : Trace) (turns : List ℕ) → SameDeferrals n r.trace w (turns_of r) turns
    → waits w turns n i ≡ true → waits r.trace (turns_of r) n i ≡ true
waits-run r n i w turns k waiting = waits-same n r.trace w (turns_of r) turns n i k (omega arith) ∙ waiting

-- the request of such an entry, in the run
entry-request : (r : Run) (n i : ℕ) (e : Waiting) → Reaches r n → waits r.trace (turns_of r) n i ≡ true
    → IsEntryOf (take n r.trace) (turns_of r) n e i → live_request_of r.trace i ≡ Some e.deferral.request
entry-request r n i e h waiting entry =
    let w = r.trace in
    let a = waits-parts w (turns_of r) n i waiting in
    live_request_of-stays n w (take n w) i a.snoop (take-agrees w n h.long) a.below a.is_snoop ∙ entry.deferral.request

-- with no reply that begins at d, an entry stays
same-entry : (r : Run) (d i : ℕ) (w : Trace) (turns : List ℕ) (e : Waiting) → Reaches r (suc d)
    → SameDeferrals (suc d) r.trace w (turns_of r) turns → waits w turns (suc d) i ≡ true
    → IsEntryOf (take (suc d) r.trace) (turns_of r) (suc d) e i → is_reply_to w i d ≡ false
    → IsEntryOf w turns (suc d) e i
same-entry r d i w turns e h k waiting entry none =
    let v = take (suc d) r.trace in
    let size : length v ≡ suc d = length-take-le (suc d) r.trace h.long in
    let cut = cut-with r (suc d) w turns h k in
    let a = waits-parts w turns (suc d) i waiting in
    let kept = answered-before d w v i a.snoop (AgreeTo-sym (suc d) v w cut.agree) size a.is_snoop a.below none in
    whole-entry r (suc d) i w turns e e.begun h k waiting entry (entry.begun ∙ sym kept)

-- the reply that begins at d is one to the request that waits with its ID
told-reply : (r : Run) (d i : ℕ) (w : Trace) (turns : List ℕ) (reply request : Request) → Reaches r (suc d)
    → SameDeferrals (suc d) r.trace w (turns_of r) turns → reply_at w d ≡ Some reply → reply_begun r d ≡ Some reply
    → waits w turns (suc d) i ≡ true → live_request_of r.trace i ≡ Some request → request.did ≡ reply.did
    → is_reply_to w i d ≡ true
told-reply r d i w turns reply request h k begins begun waiting asks did =
    let long = h.long in
    let short : Reaches r (d + 1) = record { timely = h.timely; bounds = h.bounds; long = omega arith } in
    let b = begun-for r d reply short begun in
    let gap = b.due.gap in
    let after = b.due.after in
    let own = waits-run r (suc d) i w turns k waiting in
    let due = begun-waits r d (suc d) reply b (omega arith) (omega arith) in
    let same = one-id r (suc d) (suc d) i b.number request b.request h (omega arith) own due asks b.asked (did
    ∙ b.did) in
    let parts = reply_at-parts w d reply begins in
    let a = waits-parts r.trace (turns_of r) (suc d) i own in
    let asked = sym (live_request_of-stays (suc d) r.trace w i a.snoop k.agree a.below a.is_snoop) ∙ asks in
    let response = subst (λ x. response_clock_of r.trace x ≡ Some b.due.response) (sym same) b.due.is_response in
    reply-from w i d (record {
      asks = parts.0;
      replies = parts.1;
      same_id = same-ids (request_at w d) (live_request_of w i) reply request parts.2 asked (sym did);
      response = b.due.response;
      is_response = response_clock_of-stays (suc d) r.trace w i b.due.response k.agree (omega arith) response;
      after = after;
    })

told-entry : (r : Run) (d i : ℕ) (w : Trace) (turns : List ℕ) (reply : Request) (e : Waiting) → Reaches r (suc d)
    → SameDeferrals (suc d) r.trace w (turns_of r) turns → reply_at w d ≡ Some reply → reply_begun r d ≡ Some reply
    → waits w turns (suc d) i ≡ true → IsEntryOf (take (suc d) r.trace) (turns_of r) (suc d) e i
    → (b : Bool) → nat_eq e.deferral.request.did reply.did ≡ b
    → IsEntryOf w turns (suc d) (with_reply reply.did true e) i
told-entry r d i w turns reply e h k begins begun waiting entry true own =
    let did = eqb-true e.deferral.request.did reply.did own in
    let asks = entry-request r (suc d) i e h (waits-run r (suc d) i w turns k waiting) entry in
    let now = begun-now w d i
    (told-reply r d i w turns reply e.deferral.request h k begins begun waiting asks did) in
    rw own (whole-entry r (suc d) i w turns e true h k waiting entry (sym now))
told-entry r d i w turns reply e h k begins begun waiting entry false other =
    let parts = reply_at-parts w d reply begins in
    let run = waits-run r (suc d) i w turns k waiting in
    let asks = entry-request r (suc d) i e h run entry in
    let a = waits-parts r.trace (turns_of r) (suc d) i run in
    let asked = sym (live_request_of-stays (suc d) r.trace w i a.snoop k.agree a.below a.is_snoop) ∙ asks in
    rw other (same-entry r d i w turns e h k waiting entry (false_from_ne_true (is_reply_to w i d) (λ t.
    let did = ids-of (request_at w d) (live_request_of w i) reply e.deferral.request parts.2 asked
    (reply-parts w i d t).same_id in
    both_ways (nat_eq e.deferral.request.did reply.did) other (eq-eqb e.deferral.request.did reply.did (sym did)))))

after-none : (r : Run) (d : ℕ) (list : List Waiting) → reply_begun r d ≡ None → after_beginning r (suc d) list ≡ list
unfolding after_beginning after_reply
after-none r d list e = rw (after_beginning, e) refl

after-some : (r : Run) (d : ℕ) (reply : Request) (list : List Waiting) → reply_begun r d ≡ Some reply
    → after_beginning r (suc d) list ≡ map (with_reply reply.did true) list
unfolding after_beginning after_reply
after-some r d reply list e = rw (after_beginning, e) refl

-- such a trace finds the list with the reply that began before it
pub trace-finds : (r : Run) (n : ℕ) (w : Trace) (turns : List ℕ) (list : List Waiting) → Reaches r n
    → GoesOnFrom r n w turns → ShowsDeferrals list r n → StandsFor (after_beginning r n list) w turns n
unfolding after_beginning waiting_at
trace-finds r zero w turns list h k has =
    AreEntriesOf-IsEntryOf (waiting_at w turns zero) list w turns zero
    (Matched-into (IsEntryOf (take zero r.trace) (turns_of r) zero) (IsEntryOf w turns zero) (waits w turns zero) list
    (waiting_at w turns zero) (all_where-pass (waits w turns zero) (live_count w))
    (λ e i waiting entry.
    let a = waits-parts w turns zero i waiting in
    let none = a.below in
    absurd (omega arith))
    (below-entries r zero w turns list h k.same has))
trace-finds r (suc d) w turns list h k has = by (reply_begun r d) refl
  where
    live : List ℕ
    live = waiting_at w turns (suc d)

    all : AllPass (waits w turns (suc d)) live
    all = all_where-pass (waits w turns (suc d)) (live_count w)

    below : Matched (IsEntryOf (take (suc d) r.trace) (turns_of r) (suc d)) list live
    below = below-entries r (suc d) w turns list h k.same has

    shown : reply_at w d ≡ reply_begun r d
    shown = k.shown d (omega arith)

    by : (o : Option Request) → reply_begun r d ≡ o → StandsFor (after_beginning r (suc d) list) w turns (suc d)
    by None e =
        subst (λ xs. StandsFor xs w turns (suc d)) (sym (after-none r d list e))
        (AreEntriesOf-IsEntryOf live list w turns (suc d)
        (Matched-into (IsEntryOf (take (suc d) r.trace) (turns_of r) (suc d)) (IsEntryOf w turns (suc d))
        (waits w turns (suc d)) list live all
        (λ x i waiting entry. same-entry r d i w turns x h k.same waiting entry
        (false_from_ne_true (is_reply_to w i d) (λ t.
        let parts = reply-parts w i d t in
        reply_at-none w d (shown ∙ e) parts.asks parts.replies))) below))
    by (Some reply) e =
        subst (λ xs. StandsFor xs w turns (suc d)) (sym (after-some r d reply list e))
        (AreEntriesOf-IsEntryOf live (map (with_reply reply.did true) list) w turns (suc d)
        (Matched-map (IsEntryOf (take (suc d) r.trace) (turns_of r) (suc d)) (IsEntryOf w turns (suc d))
        (waits w turns (suc d)) (with_reply reply.did true) list live all
        (λ x i waiting entry. told-entry r d i w turns reply x h k.same (shown ∙ e) e waiting entry
        (nat_eq x.deferral.request.did reply.did) refl) below))

-- the run up to n goes on from the samples below n
pub cut-goes-on : (r : Run) (n : ℕ) (turns : List ℕ) → Reaches r (n + 1)
    → SameDeferrals (n + 1) r.trace (run_to r n).trace (turns_of r) turns
    → GoesOnFrom r n (run_to r n).trace turns
cut-goes-on r n turns h k =
    let w = r.trace in
    let v = (run_to r n).trace in
    let long = h.long in
    let agree = run_to-agrees r n (omega arith) in
    record {
      same = record {
        agree = record {
          left = omega arith;
          right = let m = agree.right in omega arith;
          same = λ c l. agree.same c (omega arith);
        };
        same = λ i t e l. k.same i t e (omega arith);
      };
      shown = λ d at.
          let there : Reaches r (d + 2) = record { timely = h.timely; bounds = h.bounds; long = omega arith } in
          sym (reply_at-agree (n + 1) w v d agree (omega arith)) ∙ reply-shown r d there;
    }

-- a clock finds the list with the reply that began before it
pub clock-finds : (r : Run) (n : ℕ) (list : List Waiting) → Reaches r (n + 1) → ShowsDeferrals list r n
    → FindsDeferrals (after_beginning r n list) r n
clock-finds r n list h has =
    let long = h.long in
    let short : Reaches r n = record { timely = h.timely; bounds = h.bounds; long = omega arith } in
    let same = own-turns (n + 1) r.trace (run_to r n).trace (turns_of r) (run_to-agrees r n (omega arith)) in
    trace-finds r n (run_to r n).trace (turns_of r) list short (cut-goes-on r n (turns_of r) h same) has

-- in such a trace no request that responds below n does so before its snoop end
pub trace-order : (r : Run) (n : ℕ) (w : Trace) (turns : List ℕ) → Reaches r n
    → SameDeferrals n r.trace w (turns_of r) turns → RespondsInOrder w n
trace-order r n w turns h k =
    let back = AgreeTo-sym n r.trace w k.agree in
    let long = h.long in
    record {
      after = λ i s x snoop response below.
          let own = response_clock_of-stays n w r.trace i x back below response in
          let a = answered r.trace i x (orderly-whole r 0 h.timely (omega arith)) own in
          let gap = a.before in
          let there = snoop_end_of-stays n r.trace w i a.snoop k.agree (omega arith) a.is_snoop in
          let same : a.snoop ≡ s = cc in
          omega arith;
    }

-- and those that wait at n have IDs of their own
pub trace-ids : (r : Run) (n : ℕ) (w : Trace) (turns : List ℕ) → Reaches r n
    → SameDeferrals n r.trace w (turns_of r) turns → HaveOwnIds w turns n
trace-ids r n w turns h k =
    let back = AgreeTo-sym n r.trace w k.agree in
    let request : (i : ℕ) → waits w turns n i ≡ true → live_request_of w i ≡ live_request_of r.trace i = λ i e.
    let a = waits-parts w turns n i e in
    live_request_of-stays n w r.trace i a.snoop back a.below a.is_snoop in
    record {
      one = λ i j one two id.
          (own-ids r n n h (omega arith)).one i j (waits-run r n i w turns k one) (waits-run r n j w turns k two)
          (sym (λ x. have_same_id (request i one x) (request j two x)) ∙ id);
    }
