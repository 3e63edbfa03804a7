-- A reply grants the line of the request that it answers.
use Rattle.fsb_tied.proofs.Words
use Words.{ℕ, suc, ◌+◌, ◌<◌, ◌≤◌, ◌≡◌, true, false, List, Option, Some, None, length, refl, sym, ap, subst, ◌∙◌, arith}
use Words.{option_and_then, and_from, and_parts, eq-eqb, false_from_ne_true, is_at, is_some_and, first_where-at}
use Words.{is_at-from, is_at-some, Request, ADS, line_at, Outcome, Who, Priority, Trace, request_at, reply_number_of}
use Words.{is_deferral, is_settled_deferred, is_reply, is_reply_kind, live_clock_of, live_request_of, snoop_end_of}
use Words.{begins_at, is_agent, is_same_agent, winner_at, line_at-agree, live_clock_of-rises, request_at-agree}
use Words.{snoop_end_of-rises, winner_at-agree, agent_at, claim_at, gives_line, grant_for, grant_of, grant_to}
use Words.{is_answered_by, is_owner_request, is_shared_at, live_claim_of, makes_grant, served_number, turns_in, Claim}
use Words.{Past, SnoopEnd, Run, past_of, run_to, Timely, snoop-tied, replies_line, WantsLawfully, reply-before}
use Words.{reply-is, run_to-agrees}
use Rattle.fsb_tied.proofs.OneReply.{reply-after, two-replies}
use Rattle.fsb_tied.proofs.PendingLines.{IsPutOff}
use Rattle.fsb_tied.proofs.RepliesSeen.{HasReply, has-reply, live-request}
use Rattle.fsb_tied.proofs.SnoopClaims.{IsSnooped, snooped-by}

unclaimed-by : (w : Trace) (q : ℕ) (o : Option Who) → winner_at w q ≡ o → is_agent o Priority ≡ true
    → claim_at w q ≡ None
unfolding claim_at agent_at is_agent is_some_and is_same_agent
unclaimed-by w q o h1 h2 = grind arith

-- a reply has no claim
pub reply-unclaimed : (r : Run) (q : ℕ) → Timely r → WantsLawfully r → r.plan.ahead ≤ 4 → suc q < length r.trace
    → line_at ADS r.trace q ≡ true → is_reply (request_at r.trace q) ≡ true → claim_at r.trace q ≡ None
unfolding begins_at
reply-unclaimed r q h wants few l ads replies =
    let w = r.trace in
    let v = (run_to r (suc q)).trace in
    let agree = run_to-agrees r (suc q) l in
    let here = sym (line_at-agree ADS (suc q + 1) w v q agree (omega arith)) ∙ ads in
    let reply = ap is_reply (sym (request_at-agree (suc q + 1) w v q agree (omega arith))) ∙ replies in
    let begins = sym (reply-is r q h wants few l) ∙ reply-before (run_to r (suc q)) q ∙ and_from _ _ here reply in
    let agent = (and_parts (line_at ADS v q) (is_agent (winner_at v q) Priority) begins).1 in
    let winner = winner_at-agree (suc q + 1) w v q agree (omega arith) in
    unclaimed-by w q (winner_at w q) refl (ap (λ o. is_agent o Priority) winner ∙ agent)

reply-gives : (p : Past) (w : Trace) (q t : ℕ) (outcome : Outcome) (o : Option Request) → request_at w q ≡ o
    → is_reply o ≡ true → gives_line p w q t outcome ≡ true
unfolding gives_line is_reply is_some_and is_reply_kind makes_grant
reply-gives p w q t outcome o h1 h2 = grind arith

grant-by : (p : Past) (w : Trace) (i q t j : ℕ) (outcome : Outcome) (claim : Claim) → gives_line p w q t outcome ≡ true
    → served_number w (turns_in p.moments) i ≡ Some j → live_claim_of w j ≡ Some claim
    → grant_of p w i q t outcome ≡ Some (grant_to q (is_owner_request (live_request_of w j)) (is_shared_at w t) claim)
unfolding grant_of grant_for
grant-by p w i q t j outcome claim gives served claims = rw (gives, grant_of, served, claims) refl

served-by : (w : Trace) (turns : List ℕ) (i j : ℕ) → is_reply (live_request_of w i) ≡ true → j < i
    → is_answered_by w turns i j ≡ true → ((k : ℕ) → k < j → is_answered_by w turns i k ≡ false)
    → served_number w turns i ≡ Some j
unfolding served_number
served-by w turns i j e l here before =
    rw (e, served_number) (first_where-at (is_answered_by w turns i) i j l here before)

-- live request j, which is Deferred, in the run's turns
pub settled-there : (r : Run) (j t : ℕ) (s : SnoopEnd) → IsSnooped r t j s
    → is_settled_deferred r.trace (turns_in (past_of r).moments) j ≡ is_deferral s.outcome
unfolding is_settled_deferred is_some_and
settled-there r j t s k = ap (λ o. is_some_and o is_deferral) k.tied.outcome

-- the reply to a Deferred request answers no earlier one
alone : (r : Run) (line t j i k : ℕ) → Timely r → WantsLawfully r → r.plan.ahead ≤ 4 → IsPutOff r line t j
    → reply_number_of r.trace j ≡ Some i → k < j → is_answered_by r.trace (turns_in (past_of r).moments) i k ≡ false
unfolding is_answered_by
alone r line t j i k h wants few d reply less =
    let w = r.trace in
    let turns = turns_in (past_of r).moments in
    false_from_ne_true _ (λ e.
    let parts = and_parts (is_settled_deferred w turns k) (is_at (reply_number_of w k) i) e in
    let before = snoop_end_of-rises w k j t less d.snooped.tied.reached in
    let tied = snoop-tied r k before.0 before.1 in
    let snooped = snooped-by r before.0 k tied.0 tied.1 in
    let deferred = sym (settled-there r k before.0 tied.0 snooped) ∙ parts.0 in
    two-replies r t before.0 k j i tied.0 d.end h wants few snooped deferred d.snooped d.deferred less
    (is_at-some (reply_number_of w k) i parts.1) reply)

-- a reply comes behind the request that it answers
answered-later : (w : Trace) (j i q : ℕ) → live_clock_of w j ≡ Some q → (k : HasReply w j i) → q < k.clock → j < i
answered-later w j i q e k l = grind (arith, live_clock_of-rises)

-- the snoop end x of the reply i to live request j, which was Deferred with this claim: it grants the claim's line
pub record Replies (r : Run) (i j x : ℕ) (claim : Claim) : Type 0 where
  pub end : SnoopEnd
  pub snooped : IsSnooped r x i end
  pub unclaimed : end.claim ≡ None
  pub grants : end.grant
      ≡ Some (grant_to end.first (is_owner_request (live_request_of r.trace j)) (is_shared_at r.trace x) claim)

pub reply-grants : (r : Run) (line t j i x : ℕ) → Timely r → WantsLawfully r → r.plan.ahead ≤ 4
    → (d : IsPutOff r line t j) → reply_number_of r.trace j ≡ Some i → snoop_end_of r.trace i ≡ Some x
    → Replies r i j x d.claim
unfolding is_answered_by live_claim_of
reply-grants r line t j i x h wants few d reply reached =
    let w = r.trace in
    let turns = turns_in (past_of r).moments in
    let tied = snoop-tied r i x reached in
    let s = tied.0 in
    let k = snooped-by r x i s tied.1 in
    let above = k.above in
    let within = k.within in
    let n = has-reply w j i reply in
    let one = n.first in
    let two = k.tied.first in
    let same : n.clock ≡ s.first = cc in
    let replies = subst (λ q. is_reply (request_at w q) ≡ true) same n.replies in
    let none = reply-unclaimed r s.first h wants few (omega arith) k.ads replies in
    let after = reply-after r t j i d.end h d.snooped n in
    let early = d.snooped.above in
    let later = answered-later w j i d.end.first d.snooped.tied.first n (omega arith) in
    let here = and_from _ _ (settled-there r j t d.end d.snooped ∙ d.deferred)
    (is_at-from (reply_number_of w j) i reply) in
    let served = served-by w turns i j (ap is_reply (live-request w i s.first k.tied.first) ∙ replies) later here
    (λ c l. alone r line t j i c h wants few d reply l) in
    let claims = ap (option_and_then (claim_at w)) d.snooped.tied.first ∙ sym d.snooped.tied.claim ∙ d.claims in
    let gives = reply-gives (past_of r) w s.first x s.outcome (request_at w s.first) refl replies in
    record {
      end = s;
      snooped = k;
      unclaimed = k.tied.claim ∙ none;
      grants = k.tied.grant ∙ grant-by (past_of r) w i s.first x j s.outcome d.claim gives served claims;
    }

-- so its line is replied to there
pub replies-there : (r : Run) (line t j i x : ℕ) → Timely r → WantsLawfully r → r.plan.ahead ≤ 4 → IsPutOff r line t j
    → reply_number_of r.trace j ≡ Some i → snoop_end_of r.trace i ≡ Some x → replies_line (past_of r) line x ≡ true
unfolding replies_line is_some_and grant_to
replies-there r line t j i x h wants few d reply reached =
    let k = reply-grants r line t j i x h wants few d reply reached in
    rw (k.snooped.tied.there, k.unclaimed, k.grants) (eq-eqb d.claim.line line d.names)

-- and its snoop end is behind that of the request
pub reply-behind : (r : Run) (line t j i x : ℕ) → Timely r → IsPutOff r line t j → reply_number_of r.trace j ≡ Some i
    → snoop_end_of r.trace i ≡ Some x → t < x
reply-behind r line t j i x h d reply reached =
    let tied = snoop-tied r i x reached in
    let k = snooped-by r x i tied.0 tied.1 in
    let above = k.above in
    let n = has-reply r.trace j i reply in
    let one = n.first in
    let two = k.tied.first in
    let same : n.clock ≡ tied.0.first = cc in
    let after = reply-after r t j i d.end h d.snooped n in omega arith
