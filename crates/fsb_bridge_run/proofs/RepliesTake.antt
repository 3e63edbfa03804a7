-- The snoop end of a reply is for the deferral that its ID has in the list.
use Rattle.fsb_bridge_run.proofs.Words
use Words.{ℕ, ◌+◌, ◌<◌, ◌≡◌, true, false, List, Option, Some, is_some, sym, ap, subst, ◌∙◌, arith, option_and_then}
use Words.{option_map_or, and_from, and_parts, false_from_ne_true, is_at, is_before, is_some_and, first_where-at}
use Words.{is_at-from, is_at-some, Request, HIT, Trace, request_at, reply_number_of, is_settled_deferred, have_same_id}
use Words.{is_reply, is_reply_kind, live_count, live_request_of, line_at_snoop_end, snoop_end_of, AgreeTo-sym}
use Words.{is_reply-some, live_below_count, live_clock_of-stays, request_at-agree, response_clock_of-stays}
use Words.{snoop_end_of-clock, snoop_end_of-stays, snooped_at, is_answered_by, number_snooped_at, served_number}
use Words.{turns_in, SnoopEnd, Run, past_of, past_to, run_to, number_served_at, was_hit_before, one_end, tied-snoop}
use Words.{run_to-agrees, answered, orderly-whole, snooped-by, Reaches, Deferral, Waiting, deferral_of_id, IsThatOf}
use Words.{StandsFor, deferral_of_id-reply, FindsDeferrals, turns_of}
use Rattle.fsb_bridge_run.proofs.Alike.{SameDeferrals}
use Rattle.fsb_bridge_run.proofs.DueReplies.{cut-same, is-replied}
use Rattle.fsb_bridge_run.proofs.LaterTraces.{cut-goes-on, trace-ids}
use Rattle.fsb_bridge_run.proofs.ListWords.{finds-cut}
use Rattle.fsb_bridge_run.proofs.RepliesIn.{ReplyEnds, TakesDeferral, not-itself, takes-in}
use Rattle.fsb_bridge_run.proofs.Waiting.{reply-parts, waits-from, waits-parts}

-- two requests with the ID of a third one have one ID
same-third : (a b c : Option Request) → have_same_id a b ≡ true → have_same_id a c ≡ true → have_same_id b c ≡ true
unfolding have_same_id is_some_and
same-third a b c h1 h2 = grind arith

-- no earlier request is Deferred and answered by the reply
no-other : (r : Run) (n i q k : ℕ) (w : Trace) (turns : List ℕ) (reply : Request) → Reaches r n
    → SameDeferrals n r.trace w (turns_of r) turns → ReplyEnds w n i q reply → (t : TakesDeferral w turns n i reply)
    → k < t.number → is_answered_by w turns i k ≡ true → ⊥
unfolding is_answered_by
no-other r n i q k w turns reply h s ends t less e =
    let long = h.long in
    let back = AgreeTo-sym n r.trace w s.agree in
    let parts = and_parts (is_settled_deferred w turns k) (is_at (reply_number_of w k) i) e in
    let number = is_at-some (reply_number_of w k) i parts.1 in
    let m = is-replied w k i number in
    let two = is-replied w t.number i t.answers in
    let c = snoop_end_of-clock w i n ends.reached in
    let above = c.above in
    let one = m.first in
    let also = c.is_clock in
    let first = two.first in
    let same : c.clock ≡ m.clock = cc in
    let at : m.clock ≡ two.clock = cc in
    let mine = reply-parts w k m.clock m.reply in
    let its = reply-parts w t.number two.clock two.reply in
    let after = mine.after in
    let own = response_clock_of-stays n w r.trace k mine.response back (omega arith) mine.is_response in
    let a = answered r.trace k mine.response (orderly-whole r 0 h.timely (omega arith)) own in
    let gap = a.before in
    let snoop = snoop_end_of-stays n r.trace w k a.snoop s.agree (omega arith) a.is_snoop in
    let reached = ap (option_and_then (snoop_end_of w)) number ∙ ends.reached in
    let waiting = waits-from w turns n k a.snoop parts.0 snoop (omega arith)
    (ap (λ o. is_before o n) reached ∙ not-itself n) in
    let here = subst (λ x. have_same_id (request_at w x) (live_request_of w k) ≡ true) at mine.same_id in
    let ids = same-third (request_at w two.clock) (live_request_of w k) (live_request_of w t.number) here its.same_id in
    let is = (trace-ids r n w turns h s).one k t.number waiting t.waiting ids in
    omega arith

served-there : (v : Trace) (turns : List ℕ) (n i j : ℕ) → number_snooped_at v n ≡ Some i
    → is_reply (live_request_of v i) ≡ true → j < i → is_answered_by v turns i j ≡ true
    → ((k : ℕ) → k < j → is_answered_by v turns i k ≡ false)
    → option_and_then (served_number v turns) (number_snooped_at v n) ≡ Some j
unfolding served_number
served-there v turns n i j e reply less here before =
    ap (option_and_then (served_number v turns)) e
    ∙ rw (reply, served_number) (first_where-at (is_answered_by v turns i) i j less here before)

snooped-number : (v : Trace) (n i : ℕ) → snoop_end_of v i ≡ Some n → number_snooped_at v n ≡ Some i
unfolding number_snooped_at
snooped-number v n i e =
    let k = snoop_end_of-clock v i n e in
    first_where-at (λ j. is_at (snoop_end_of v j) n) (live_count v) i (live_below_count v i k.clock k.is_clock)
    (is_at-from (snoop_end_of v i) n e)
    (λ j less. false_from_ne_true (is_at (snoop_end_of v j) n) (λ t.
    let same = one_end v n j i (is_at-some (snoop_end_of v j) n t) e in omega arith))

-- the reply serves that request
served : (r : Run) (n i q : ℕ) (w : Trace) (turns : List ℕ) (reply : Request) → Reaches r n
    → SameDeferrals n r.trace w (turns_of r) turns → ReplyEnds w n i q reply → (t : TakesDeferral w turns n i reply)
    → option_and_then (served_number w turns) (number_snooped_at w n) ≡ Some t.number
unfolding is_answered_by
served r n i q w turns reply h s ends t =
    let a = waits-parts w turns n t.number t.waiting in
    served-there w turns n i t.number (snooped-number w n i ends.reached)
    (ap is_reply t.asked ∙ is_reply-some reply ∙ ends.replies) t.behind
    (and_from _ _ a.deferred (is_at-from (reply_number_of w t.number) i t.answers))
    (λ k less. false_from_ne_true (is_answered_by w turns i k) (no-other r n i q k w turns reply h s ends t less))

-- and takes the deferral of it
pub taken-in : (r : Run) (n i q : ℕ) (w : Trace) (turns : List ℕ) (reply : Request) (list : List Waiting) → Reaches r n
    → SameDeferrals n r.trace w (turns_of r) turns → ReplyEnds w n i q reply → StandsFor list w turns n
    → IsThatOf w (deferral_of_id reply.did list) (option_and_then (served_number w turns) (number_snooped_at w n))
taken-in r n i q w turns reply list h s ends stands =
    let t = takes-in r n i q w turns reply h s ends in
    subst (IsThatOf w (deferral_of_id reply.did list)) (sym (served r n i q w turns reply h s ends t))
    (deferral_of_id-reply list w turns n t.number i reply (trace-ids r n w turns h s) stands t.waiting t.answers
    t.asked)

there-by : (w : Trace) (o : Option Deferral) (i : ℕ) → IsThatOf w o (Some i) → is_some o ≡ true
there-by w o i h1 = grind arith

-- which is there
pub there-in : (r : Run) (n i q : ℕ) (w : Trace) (turns : List ℕ) (reply : Request) (list : List Waiting) → Reaches r n
    → SameDeferrals n r.trace w (turns_of r) turns → ReplyEnds w n i q reply → StandsFor list w turns n
    → is_some (deferral_of_id reply.did list) ≡ true
there-in r n i q w turns reply list h s ends stands =
    let t = takes-in r n i q w turns reply h s ends in
    there-by w (deferral_of_id reply.did list) t.number
    (deferral_of_id-reply list w turns n t.number i reply (trace-ids r n w turns h s) stands t.waiting t.answers
    t.asked)

pub hit-by : (w : Trace) (o : Option Deferral) (p : Option ℕ) → IsThatOf w o p
    → is_some_and p (line_at_snoop_end HIT w) ≡ option_map_or (λ deferral. deferral.shared) o false
unfolding is_some_and
hit-by w o p h1 = grind arith

-- the snoop end of a reply in a moment of the run
pub reply-takes : (r : Run) (n : ℕ) (s : SnoopEnd) (reply : Request) (list : List Waiting) → Reaches r (n + 1)
    → FindsDeferrals list r n → snooped_at (past_of r) n ≡ Some s → request_at r.trace s.first ≡ Some reply
    → is_reply_kind reply.kind ≡ true
    → IsThatOf (run_to r n).trace (deferral_of_id reply.did list)
    (number_served_at (run_to r n) (past_to (past_of r) n) n)
unfolding number_served_at
reply-takes r n s reply list h finds there decoded replies =
    let w = r.trace in
    let v = (run_to r n).trace in
    let long = h.long in
    let turns = turns_in (past_to (past_of r) n).moments in
    let short : Reaches r n = record { timely = h.timely; bounds = h.bounds; long = omega arith } in
    let agree = run_to-agrees r n (omega arith) in
    let tied = tied-snoop r n s there in
    let k = snooped-by r n tied.0 s tied.1 in
    let above = k.above in
    taken-in r n tied.0 s.first v turns reply list short
    (cut-goes-on r n turns h (cut-same r n h.timely (omega arith))).same
    (record {
      reached = snoop_end_of-stays (n + 1) w v tied.0 n agree (omega arith) k.tied.reached;
      first = live_clock_of-stays (n + 1) w v tied.0 s.first agree (omega arith) k.tied.first;
      decoded = sym (request_at-agree (n + 1) w v s.first agree (omega arith)) ∙ decoded;
      replies = replies;
    })
    (finds-cut r n list h finds)

pub hit-taken : (r : Run) (n : ℕ) (s : SnoopEnd) (reply : Request) (list : List Waiting) → Reaches r (n + 1)
    → FindsDeferrals list r n → snooped_at (past_of r) n ≡ Some s → request_at r.trace s.first ≡ Some reply
    → is_reply_kind reply.kind ≡ true
    → was_hit_before (run_to r n) (past_to (past_of r) n) n
    ≡ option_map_or (λ deferral. deferral.shared) (deferral_of_id reply.did list) false
unfolding was_hit_before
hit-taken r n s reply list h finds there decoded replies = grind (arith, hit-by, reply-takes)
