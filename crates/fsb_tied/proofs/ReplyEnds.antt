-- What the snoop end of a reply that grants a line answers: a request that was Deferred on the line, the last one.
use Rattle.fsb_tied.proofs.Words
use Words.{ℕ, ◌+◌, ◌<◌, ◌≤◌, ◌≡◌, Bool, true, false, List, Some, None, refl, sym, ap, subst, ◌∙◌, arith, inl, inr}
use Words.{option_and_then, and_parts, both_ways, cases_lt, false_from_ne_true, any_where, from_clock, last_where}
use Words.{is_at, any_where-off, first_where-found, is_at-some, Outcome, Trace, request_at, reply_number_of}
use Words.{is_deferral, is_settled_deferred, is_reply, live_clock_of, live_request_of, snoop_end_of, snoop_end_of-rises}
use Words.{snooped_at, claim_at, gives_line, grant_for, grant_of, grant_to, is_answered_by, is_owner_request}
use Words.{is_shared_at, live_claim_of, served_number, turns_in, Claim, Grant, Past, SnoopEnd, Run, past_of, Timely}
use Words.{last_where-found, last_where-from, one_end, snoop-tied, deferral_at, deferral_below, deferred_to}
use Words.{defers_line, replies_line, KeepsBounds, and-then, some-and}
use Rattle.fsb_tied.proofs.Deferrals.{retry-outcome}
use Rattle.fsb_tied.proofs.OneReply.{deferred-held}
use Rattle.fsb_tied.proofs.PendingLines.{HasNoReply, IsPutOff, defers-there, pending-retried, put-off-as, put-off-at}
use Rattle.fsb_tied.proofs.RepliesSeen.{live-request}
use Rattle.fsb_tied.proofs.ReplyGrants.{settled-there}
use Rattle.fsb_tied.proofs.SnoopClaims.{IsSnooped, claimed-at, snooped-by, snooped-in}

-- the snoop end at n of a reply that makes this grant of the line: it answers a live request that was Deferred on it
pub record IsReplyEnd (r : Run) (line n : ℕ) (s : SnoopEnd) (grant : Grant) : Type 0 where
  pub number : ℕ
  pub snooped : IsSnooped r n number s
  pub replies : is_reply (request_at r.trace s.first) ≡ true
  pub served : ℕ
  pub serves : served_number r.trace (turns_in (past_of r).moments) number ≡ Some served
  pub reply : reply_number_of r.trace served ≡ Some number
  pub clock : ℕ
  pub before : clock < n
  pub put_off : IsPutOff r line clock served
  pub made : grant_to s.first (is_owner_request (live_request_of r.trace served)) (is_shared_at r.trace n) put_off.claim
      ≡ grant

served-from : (p : Past) (w : Trace) (i q t : ℕ) (outcome : Outcome) (grant : Grant) (b : Bool)
    → gives_line p w q t outcome ≡ b → grant_of p w i q t outcome ≡ Some grant
    → option_and_then (grant_for w q t) (served_number w (turns_in p.moments) i) ≡ Some grant
unfolding grant_of
served-from p w i q t outcome grant b h1 h2 = grind arith

-- what makes a grant without a claim is a reply
reply-served : (w : Trace) (turns : List ℕ) (i j q : ℕ) (claim : Claim) (b : Bool) → is_reply (live_request_of w i) ≡ b
    → served_number w turns i ≡ Some j → live_claim_of w j ≡ Some claim → live_clock_of w i ≡ Some q
    → claim_at w q ≡ None
    → (b ≡ true) × (j < i) × (is_answered_by w turns i j ≡ true)
unfolding served_number live_claim_of
reply-served w turns i j q claim b h1 h2 h3 h4 h5 = grind (arith, first_where-found)

-- a live request with a claim on the line that is settled as Deferred
put-off-from : (r : Run) (line t j : ℕ) (s : SnoopEnd) (claim : Claim) → IsSnooped r t j s
    → is_settled_deferred r.trace (turns_in (past_of r).moments) j ≡ true → live_claim_of r.trace j ≡ Some claim
    → claim.line ≡ line → IsPutOff r line t j
unfolding live_claim_of
put-off-from r line t j s claim k deferred claims names = record {
  end = s;
  snooped = k;
  deferred = sym (settled-there r j t s k) ∙ deferred;
  claim = claim;
  claims = k.tied.claim ∙ sym (ap (option_and_then (claim_at r.trace)) k.tied.first) ∙ claims;
  names = names;
}

-- what a grant takes from the claim that it serves
granted-from : (w : Trace) (q t j : ℕ) (grant : Grant) → grant_for w q t j ≡ Some grant
    → (claim : Claim) × (live_claim_of w j ≡ Some claim)
    × (grant_to q (is_owner_request (live_request_of w j)) (is_shared_at w t) claim ≡ grant) × (claim.line ≡ grant.line)
unfolding grant_for grant_to
granted-from w q t j grant e = grind arith

pub reply-end-at : (r : Run) (line n : ℕ) (s : SnoopEnd) (grant : Grant) → snooped_at (past_of r) n ≡ Some s
    → s.claim ≡ None
    → s.grant ≡ Some grant → grant.line ≡ line → IsReplyEnd r line n s grant
unfolding is_answered_by put-off-from
reply-end-at r line n s grant there none grants names =
    let w = r.trace in
    let turns = turns_in (past_of r).moments in
    let q = s.first in
    let k = snooped-in r n s there in
    let i : ℕ = k.0 in
    let snooped : IsSnooped r n i s = k.1 in
    let given = served-from (past_of r) w i q n s.outcome grant (gives_line (past_of r) w q n s.outcome) refl
    (sym snooped.tied.grant ∙ grants) in
    let j = and-then (grant_for w q n) (served_number w turns i) grant given in
    let c = granted-from w q n j.0 grant j.2 in
    let serves = reply-served w turns i j.0 q c.0 (is_reply (live_request_of w i)) refl j.1 c.1 snooped.tied.first
    (sym snooped.tied.claim ∙ none) in
    let parts = and_parts (is_settled_deferred w turns j.0) (is_at (reply_number_of w j.0) i) serves.2 in
    let before = snoop_end_of-rises w j.0 i n serves.1 snooped.tied.reached in
    let gap : before.0 + 3 ≤ n = before.2 in
    let tied = snoop-tied r j.0 before.0 before.1 in
    let end = snooped-by r before.0 j.0 tied.0 tied.1 in
    record {
      number = i;
      snooped = snooped;
      replies = sym (ap is_reply (live-request w i q snooped.tied.first)) ∙ serves.0;
      served = j.0;
      serves = j.1;
      reply = is_at-some (reply_number_of w j.0) i parts.1;
      clock = before.0;
      before = omega arith;
      put_off = put-off-from r line before.0 j.0 tied.0 c.0 end parts.0 c.1 (c.3 ∙ names);
      made = c.2;
    }

replied-at : (r : Run) (line x : ℕ) → replies_line (past_of r) line x ≡ true
    → (s : SnoopEnd) × (grant : Grant) × IsReplyEnd r line x s grant
unfolding replies_line
replied-at r line x e = grind (arith, some-and, reply-end-at)

-- up to its reply's snoop end a request has no reply
not-before : (r : Run) (j i n m : ℕ) → reply_number_of r.trace j ≡ Some i → snoop_end_of r.trace i ≡ Some n → m ≤ n
    → HasNoReply r j m
not-before r j i n m reply reached low = grind arith

-- a line is not Deferred again before the reply
not-again : (r : Run) (line t j u k : ℕ) → Timely r → KeepsBounds r.plan → IsPutOff r line t j → IsPutOff r line u k
    → t < u
    → HasNoReply r j u → ⊥
unfolding is_deferral
not-again r line t j u k h bounds first later less none =
    let end = later.end in
    let c = claimed-at r u k end later.claim h bounds later.snooped later.claims in
    let held = deferred-held r u k end c.request h later.snooped c.decoded later.deferred in
    let turn = pending-retried r u k end c.request line t j h later.snooped c.decoded
    (c.names ∙ later.names) held first less none in
    elim (retry-outcome r u k end later.claim later.snooped c turn) [
      | inl one ↦ both_ways (is_deferral end.outcome) (ap is_deferral one) later.deferred
      | inr one ↦ both_ways (is_deferral end.outcome) (ap is_deferral one) later.deferred
    ]

-- nor does another reply grant it
no-other : (r : Run) (line t j i n x : ℕ) (s : SnoopEnd) (grant : Grant) → Timely r → KeepsBounds r.plan
    → IsPutOff r line t j
    → reply_number_of r.trace j ≡ Some i → snoop_end_of r.trace i ≡ Some n → t < x → x < n
    → IsReplyEnd r line x s grant → ⊥
no-other r line t j i n x s grant h bounds d reply reached above below k =
    let before = k.before in
    elim (cases_lt t k.clock) [
      | inl less ↦
          not-again r line t j k.clock k.served h bounds d k.put_off less
          (not-before r j i n k.clock reply reached (omega arith))
      | inr more ↦ elim (cases_lt k.clock t) [
        | inl less ↦
            not-again r line k.clock k.served t j h bounds k.put_off d less
            (not-before r k.served k.number x t k.reply k.snooped.tied.reached (omega arith))
        | inr least ↦
            let same : k.clock ≡ t = omega arith in
            let one = subst (λ y. snoop_end_of r.trace k.served ≡ Some y) same k.put_off.snooped.tied.reached in
            let number : k.served ≡ j = one_end r.trace t k.served j one d.snooped.tied.reached in
            not-before r j i n n reply reached (omega arith) k.number x
            (subst (λ y. reply_number_of r.trace y ≡ Some k.number) number k.reply) k.snooped.tied.reached below
      ]
    ]

last-at : (test : ℕ → Bool) (n c : ℕ) → c < n → test c ≡ true → ((t : ℕ) → c < t → t < n → test t ≡ false)
    → last_where test n ≡ Some c
last-at test n c l t none =
    let k = last_where-from test n c l t in
    let found = last_where-found test n k.0 k.1 in
    elim (cases_lt c k.0) [
      | inl less ↦ absurd (both_ways (test k.0) (none k.0 less found.0) found.1)
      | inr more ↦ let above : c ≤ k.0 = k.2 in let same : k.0 ≡ c = omega arith in k.1 ∙ ap Some same
    ]

none-from : (test : ℕ → Bool) (n c : ℕ) → ((t : ℕ) → c < t → t < n → test t ≡ false)
    → any_where (from_clock (c + 1) test) n ≡ false
unfolding from_clock
none-from test n c none = grind (arith, any_where-off)

deferral-by : (p : Past) (line n t : ℕ) → last_where (defers_line p line) n ≡ Some t
    → any_where (from_clock (t + 1) (replies_line p line)) n ≡ false → deferral_below p line n ≡ deferral_at p line t
unfolding deferral_below
deferral-by p line n t e f = rw (e, deferral_below, f) refl

-- so the line's deferral at the snoop end of a reply is that of the request that is answered
pub reply-deferral : (r : Run) (line n : ℕ) (s : SnoopEnd) (grant : Grant) → Timely r → KeepsBounds r.plan
    → (k : IsReplyEnd r line n s grant)
    → deferral_below (past_of r) line n
    ≡ Some (deferred_to (past_of r) line k.clock k.put_off.end k.put_off.claim.agent)
reply-deferral r line n s grant h bounds k =
    let p = past_of r in
    let t = k.clock in
    let j = k.served in
    let d = k.put_off in
    let reached = k.snooped.tied.reached in
    let last = last-at (defers_line p line) n t k.before (defers-there r line t j d) (λ u above below.
    false_from_ne_true (defers_line p line u) (λ e.
    let later = put-off-at r line u e in
    not-again r line t j u later.0 h bounds d later.1 above
    (not-before r j k.number n u k.reply reached (omega arith)))) in
    let none = none-from (replies_line p line) n t (λ x above below.
    false_from_ne_true (replies_line p line x) (λ e.
    let other = replied-at r line x e in
    no-other r line t j k.number n x other.0 other.1 h bounds d k.reply reached above below other.2)) in
    deferral-by p line n t last none ∙ put-off-as r line t j d
