-- The snoop end of a reply, in a trace that has the deferrals of a run so far: which request it answers.
use Rattle.fsb_bridge_run.proofs.Words
use Words.{ℕ, ◌+◌, ◌<◌, ◌≤◌, ◌≡◌, true, false, List, Some, length, sym, ap, ◌∙◌, arith, option_and_then, option_map}
use Words.{and_from, and_parts, false_from_ne_true, is_before, first_where-at, is_before-parts, Request, ADS, line_at}
use Words.{AgreeTo, Trace, request_at, is_live_reply_to, is_reply_to, reply_clock_of, reply_number_of, is_live}
use Words.{is_reply, is_reply_kind, live_clock_of, live_number_of, live_request_of, snoop_end_of, AgreeTo-sym}
use Words.{is_live-agree, is_reply-some, line_at-agree, live_clock_of-rises, live_request_of-at, request_at-agree}
use Words.{snoop_end_of-clock, snoop_end_of-stays, Run, wants-lawfully, live-at, Reaches, waits, turns_of}
use Rattle.fsb_bridge_run.proofs.Alike.{SameDeferrals, deferred-same}
use Rattle.fsb_bridge_run.proofs.DueReplies.{AnswersDue, answers-due, live-of}
use Rattle.fsb_bridge_run.proofs.UnderWay.{reply-to-kept}
use Rattle.fsb_bridge_run.proofs.Waiting.{waits-from, waits-parts}

-- the snoop end of live request i is n, and it is this reply
pub record ReplyEnds (w : Trace) (n i q : ℕ) (reply : Request) : Type 0 where
  pub reached : snoop_end_of w i ≡ Some n
  pub first : live_clock_of w i ≡ Some q
  pub decoded : request_at w q ≡ Some reply
  pub replies : is_reply_kind reply.kind ≡ true

-- the request that waits and is answered by it
pub record TakesDeferral (w : Trace) (turns : List ℕ) (n i : ℕ) (reply : Request) : Type 0 where
  pub number : ℕ
  pub waiting : waits w turns n number ≡ true
  pub answers : reply_number_of w number ≡ Some i
  pub asked : live_request_of w i ≡ Some reply
  pub behind : number < i

pub not-itself : (c : ℕ) → is_before (Some c) c ≡ false
not-itself c = grind (arith, is_before-parts)

-- a live reply that begins at q is the reply to the request that it answers, in such a trace too
replied-in : (r : Run) (n q : ℕ) (w : Trace) (d : AnswersDue r q) → AgreeTo n r.trace w → q + 4 ≤ n
    → is_live w q ≡ true → q < length w → line_at ADS r.trace q ≡ true
    → reply_number_of w d.number ≡ Some (live_number_of w q)
unfolding reply_number_of reply_clock_of is_live_reply_to
replied-in r n q w d a above live within ads =
    let back = AgreeTo-sym n r.trace w a in
    let gap = d.gap in
    let after = d.after in
    let snoop = snoop_end_of-stays n r.trace w d.number d.snoop a (omega arith) d.is_snoop in
    let here = reply-to-kept n r.trace w d.number d.snoop q a d.is_snoop (omega arith) (omega arith) d.answers in
    ap (option_map (live_number_of w))
    (first_where-at (is_live_reply_to w d.number) (length w) q within (and_from _ _ live here)
    (λ u less. false_from_ne_true _ (λ t.
    let parts = and_parts (is_live w u) (is_reply_to w d.number u) t in
    let own = reply-to-kept n w r.trace d.number d.snoop u back snoop (omega arith) (omega arith) parts.1 in
    d.unanswered u less own (is_live-agree n r.trace w u a (omega arith) ∙ parts.0))))

pub takes-in : (r : Run) (n i q : ℕ) (w : Trace) (turns : List ℕ) (reply : Request) → Reaches r n
    → SameDeferrals n r.trace w (turns_of r) turns → ReplyEnds w n i q reply → TakesDeferral w turns n i reply
takes-in r n i q w turns reply h k ends =
    let a = k.agree in
    let c = snoop_end_of-clock w i n ends.reached in
    let same : c.clock ≡ q = cc in
    let above : q + 4 ≤ n = let m = c.above in omega arith in
    let live = live-at w i q ends.first in
    let ads = line_at-agree ADS n r.trace w q a (omega arith) ∙ live.asks in
    let decoded = request_at-agree n r.trace w q a (omega arith) ∙ ends.decoded in
    let d = answers-due r q h.timely (wants-lawfully r h.bounds) h.bounds.few_ahead (omega arith) ads
    (ap is_reply decoded ∙ is_reply-some reply ∙ ends.replies) in
    let number = replied-in r n q w d a above (live-of w i q ends.first) live.within ads ∙ ap Some live.number in
    let reached = ap (option_and_then (snoop_end_of w)) number ∙ ends.reached in
    let snoop = snoop_end_of-stays n r.trace w d.number d.snoop a (omega arith) d.is_snoop in
    let settled = sym (deferred-same n r.trace w (turns_of r) turns d.number d.snoop k d.is_snoop (omega arith))
    ∙ d.deferred in
    let waiting = waits-from w turns n d.number d.snoop settled snoop (omega arith)
    (ap (λ o. is_before o n) reached ∙ not-itself n) in
    let p = waits-parts w turns n d.number waiting in
    grind (arith, live_request_of-at, live_clock_of-rises)
