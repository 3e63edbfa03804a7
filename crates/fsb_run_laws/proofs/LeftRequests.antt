-- Which requests are outstanding at a clock at which they have their snoop end or stop being so, and by what they stop.
use Rattle.fsb_run_laws.proofs.Words
use Words.{ℕ, ◌+◌, ◌<◌, ◌≤◌, ◌≡◌, ◌⊎◌, true, false, ◌&&◌, Option, Some, None, nat_eq, refl, sym, ap, subst, ◌∙◌, inl}
use Words.{inr, arith, option_and_then, and_parts, both_ways, cases_Bool, cases_lt, eqb-true, lt-ltb, or_cases, is_at}
use Words.{is_before, is_at-from, is_at-some, is_before-parts, ADS, AERR, line_at, Trace, request_at, is_dropped}
use Words.{is_finished, is_outstanding, last_clock_of, reply_end_of, reply_number_of, is_deferral, is_deferred}
use Words.{is_cancelled, is_live, is_reply, live_clock_of, live_number_of, end_of, snoop_end_of, live_clock_of-number}
use Words.{Orderly, deferred_response, last_clock_of-deferred, last_clock_of-plain, begun_at, is_end_at, snooped_at}
use Words.{is_last_clock, claim_at, grant_to, is_owner_request, served_number, turns_in, Claim, Grant, SnoopEnd}
use Words.{past_of, Run, one_end, snoop-tied, tied-snoop, and-then, wants-lawfully, cancelled_in, snoop_end_below}
use Words.{IsPutOff, IsSnooped, begun-want, cancelled-at, clock-facts, has-reply, live-at, live-request, number-ended}
use Words.{orderly-whole, reply-end-at, reply-grants, snooped-by, Reaches}
use Rattle.fsb_run_laws.proofs.BroughtLines.{snoop-below}
use Rattle.fsb_run_laws.proofs.LastClocks.{has-end}
use Rattle.fsb_run_laws.proofs.LastTold.{ends-with, last-live, told-same}
use Rattle.fsb_run_laws.proofs.OwedRequests.{no-reply}

-- a live request that is no reply, and whose last clock does not lie before, is outstanding
live-outstanding : (w : Trace) (n i q : ℕ) → live_clock_of w i ≡ Some q → q < n → is_reply (request_at w q) ≡ false
    → is_before (last_clock_of w i) n ≡ false → is_outstanding w n q ≡ true
unfolding is_outstanding is_dropped is_finished is_live is_cancelled
live-outstanding w n i q clock below plain late =
    let k = live-at w i q clock in
    rw (k.asks, lt-ltb q n below, plain, k.kept, k.number, late) refl

-- one that is cancelled at the clock still is
cancelled-outstanding : (w : Trace) (n q : ℕ) → line_at ADS w q ≡ true → q + 3 ≡ n → line_at AERR w (q + 3) ≡ true
    → is_reply (request_at w q) ≡ false → is_outstanding w n q ≡ true
unfolding is_outstanding is_dropped is_finished is_live is_cancelled
cancelled-outstanding w n q ads at error plain = grind arith

not-before : (o : Option ℕ) (n : ℕ) → ((x : ℕ) → o ≡ Some x → n ≤ x) → is_before o n ≡ false
not-before o n late = grind (arith, is_before-parts)

-- a request is outstanding at its last clock
pub last-outstanding : (r : Run) (n q : ℕ) (claim : Claim) → Reaches r (n + 1) → begun_at (past_of r) q ≡ Some claim
    → q < n → is_last_clock r.trace n q ≡ true → is_outstanding r.trace n q ≡ true
unfolding is_last_clock is_cancelled
last-outstanding r n q claim h begun below last =
    let w = r.trace in
    let long = h.long in
    let k = begun-want r q claim h.timely h.bounds (omega arith) begun in
    let plain = no-reply r q claim (n + 1) h (omega arith) begun in
    let i = live_number_of w q in
    elim (or_cases (line_at AERR w (q + 3) && nat_eq (q + 3) n) (is_live w q && is_at (last_clock_of w i) n) last) [
      | inl t ↦
          let parts = and_parts (line_at AERR w (q + 3)) (nat_eq (q + 3) n) t in
          cancelled-outstanding w n q k.ads (eqb-true (q + 3) n parts.1) parts.0 plain
      | inr t ↦
          let parts = and_parts (is_live w q) (is_at (last_clock_of w i) n) t in
          let at = is_at-some (last_clock_of w i) n parts.1 in
          live-outstanding w n i q (live_clock_of-number w q (omega arith) parts.0) below plain
          (not-before (last_clock_of w i) n (λ x e. let same : x ≡ n = cc in omega arith))
    ]

-- the last clock lies behind the snoop end
last-late : (w : Trace) (i x n : ℕ) → Orderly w → snoop_end_of w i ≡ Some n → last_clock_of w i ≡ Some x → n ≤ x
unfolding reply_end_of
last-late w i x n o snoop last = elim (cases_Bool (is_deferred w i)) [
  | inr plain ↦
      let m = has-end w i x o (sym (last_clock_of-plain w i plain) ∙ last) in
      let is = m.is_snoop in
      let same : m.snoop ≡ n = cc in
      let before = m.before in
      let upto = m.upto in
      omega arith
  | inl deferred ↦
      let p = deferred_response w i deferred in
      let m = has-end w i p.0 o p.2 in
      let is = m.is_snoop in
      let same : m.snoop ≡ n = cc in
      let before = m.before in
      let upto = m.upto in
      let responds = m.is_response in
      let j = and-then (end_of w) (reply_number_of w i) x (sym (last_clock_of-deferred w i deferred) ∙ last) in
      let reply = has-reply w i j.0 j.1 in
      let answers = reply.is_response in
      let there : reply.response ≡ m.response = cc in
      let after = reply.after in
      let late = has-end w j.0 x o j.2 in
      let first = reply.first in
      let clock = late.is_clock in
      let begins : late.clock ≡ reply.clock = cc in
      let early = late.early in
      omega arith
]

-- a request of a symmetric agent is outstanding at its snoop end
pub snooped-outstanding : (r : Run) (n : ℕ) (s : SnoopEnd) (claim : Claim) → Reaches r (n + 1)
    → snooped_at (past_of r) n ≡ Some s → s.claim ≡ Some claim
    → (begun_at (past_of r) s.first ≡ Some claim) × (s.first < n) × (is_outstanding r.trace n s.first ≡ true)
snooped-outstanding r n s claim h there claims =
    let w = r.trace in
    let long = h.long in
    let tied = tied-snoop r n s there in
    let k = snooped-by r n tied.0 s tied.1 in
    let above = k.above in
    let settles = (clock-facts r 0 n h.timely h.bounds (omega arith)).settles in
    let begun = sym (settles.claimed s there) ∙ claims in (
      begun,
      omega arith,
      live-outstanding w n tied.0 s.first k.tied.first (omega arith)
          (no-reply r s.first claim (n + 1) h (omega arith) begun)
          (not-before (last_clock_of w tied.0) n
          (λ x e. last-late w tied.0 x n (orderly-whole r n h.timely (omega arith)) k.tied.reached e)),
    )

-- what a reply serves that grants a line at n: a request that was Deferred before, and is outstanding at n
pub record ServesOutstanding (r : Run) (n : ℕ) (grant : Grant) : Type 0 where
  pub claim : Claim
  pub end : SnoopEnd
  pub clock : ℕ
  pub number : ℕ
  pub before : clock < n
  pub snooped : IsSnooped r clock number end
  pub deferred : is_deferral end.outcome ≡ true
  pub claims : end.claim ≡ Some claim
  pub agent : claim.agent ≡ grant.agent
  pub line : claim.line ≡ grant.line
  pub owns : grant.owns ≡ is_owner_request (request_at r.trace end.first)
  pub begun : begun_at (past_of r) end.first ≡ Some claim
  pub early : end.first < n
  pub out : is_outstanding r.trace n end.first ≡ true

pub replied-outstanding : (r : Run) (n : ℕ) (s : SnoopEnd) (grant : Grant) → Reaches r (n + 1)
    → snooped_at (past_of r) n ≡ Some s → s.claim ≡ None → s.grant ≡ Some grant → ServesOutstanding r n grant
unfolding grant_to reply_end_of
replied-outstanding r n s grant h there none made =
    let w = r.trace in
    let long = h.long in
    let o = orderly-whole r n h.timely (omega arith) in
    let a = reply-end-at r grant.line n s grant there none made refl in
    let j = a.served in
    let d = a.put_off in
    let earlier = a.before in
    let early : Reaches r (a.clock + 1) = record { timely = h.timely; bounds = h.bounds; long = omega arith } in
    let begun = snooped-outstanding r a.clock d.end d.claim early d.snooped.tied.there d.claims in
    let lower = begun.1 in
    let late : (x : ℕ) → last_clock_of w j ≡ Some x → n ≤ x =
    λ x e. elim (cases_Bool (is_deferred w j)) [
      | inl deferred ↦
          let last : end_of w a.number ≡ Some x =
          sym (ap (option_and_then (end_of w)) a.reply) ∙ sym (last_clock_of-deferred w j deferred) ∙ e in
          let m = has-end w a.number x o last in
          let is = m.is_snoop in
          let reached = a.snooped.tied.reached in
          let same : m.snoop ≡ n = cc in
          let before = m.before in
          let upto = m.upto in
          omega arith
      | inr plain ↦
          elim (cases_lt x n) [
            | inr l ↦ l
            | inl l ↦
                let m = has-end w j x o (sym (last_clock_of-plain w j plain) ∙ e) in
                let upto = m.upto in
                let told = told-same r n a.clock j m.response d.end h d.snooped m.is_response (omega arith) in
                absurd (both_ways (is_deferred w j) plain (told ∙ d.deferred))
          ]
    ] in
    record {
      claim = d.claim;
      end = d.end;
      clock = a.clock;
      number = j;
      before = a.before;
      snooped = d.snooped;
      deferred = d.deferred;
      claims = d.claims;
      agent = ap (λ (g : Grant). g.agent) a.made;
      line = d.names;
      owns = sym (ap (λ (g : Grant). g.owns) a.made)
          ∙ ap is_owner_request (live-request w j d.end.first d.snooped.tied.first);
      begun = begun.0;
      early = omega arith;
      out = live-outstanding w n j d.end.first d.snooped.tied.first (omega arith)
          (no-reply r d.end.first d.claim (n + 1) h (omega arith) begun.0) (not-before (last_clock_of w j) n late);
    }

-- it is the live request that the reply serves
pub replied-served : (r : Run) (n i : ℕ) (s : SnoopEnd) (grant : Grant) (h : Reaches r (n + 1))
    (there : snooped_at (past_of r) n ≡ Some s) (none : s.claim ≡ None) (made : s.grant ≡ Some grant)
    → snoop_end_of r.trace i ≡ Some n
    → option_and_then (live_clock_of r.trace) (served_number r.trace (turns_in (past_of r).moments) i)
    ≡ Some (replied-outstanding r n s grant h there none made).end.first
unfolding replied-outstanding
replied-served r n i s grant h there none made reached = grind (arith, one_end)

-- what a reply serves that ends at n is outstanding there for the last time
pub ending-serves : (r : Run) (n q : ℕ) (s : SnoopEnd) (grant : Grant) → Reaches r (n + 1)
    → is_end_at (past_of r) n q ≡ true → snoop_end_below (past_of r) (n + 1) q ≡ Some s → s.claim ≡ None
    → s.grant ≡ Some grant
    → (k : ServesOutstanding r n grant) × (is_last_clock r.trace n k.end.first ≡ true)
unfolding grant_to reply_end_of
ending-serves r n q s grant h e below none made =
    let w = r.trace in
    let long = h.long in
    let o = orderly-whole r n h.timely (omega arith) in
    let k = ends-with r n q s h e below in
    let a = reply-end-at r grant.line k.clock s grant k.snooped.tied.there none made refl in
    let number = one_end w k.clock a.number k.number a.snooped.tied.reached k.snooped.tied.reached in
    let j = a.served in
    let d = a.put_off in
    let reply = has-reply w j a.number a.reply in
    let first = reply.first in
    let after = reply.after in
    let m = has-end w k.number n o k.end in
    let early = m.early in
    let there : live_clock_of w k.number ≡ Some reply.clock =
    subst (λ x. live_clock_of w x ≡ Some reply.clock) number first in
    let is = m.is_clock in
    let clock : m.clock ≡ reply.clock = cc in
    let snoops = m.is_snoop in
    let reached = k.snooped.tied.reached in
    let at : m.snoop ≡ k.clock = cc in
    let before = m.before in
    let upto = m.upto in
    let earlier = a.before in
    let deferred = told-same r n a.clock j reply.response d.end h d.snooped reply.is_response (omega arith)
    ∙ d.deferred in
    let last : last_clock_of w j ≡ Some n =
    last_clock_of-deferred w j deferred ∙ ap (option_and_then (end_of w)) a.reply ∙ ap (end_of w) number ∙ k.end in
    let lower : Reaches r (a.clock + 1) = record { timely = h.timely; bounds = h.bounds; long = omega arith } in
    let begun = snooped-outstanding r a.clock d.end d.claim lower d.snooped.tied.there d.claims in
    let less = begun.1 in
    let ends = last-live w n j d.end.first d.snooped.tied.first ∙ is_at-from (last_clock_of w j) n last in (
      record {
        claim = d.claim;
        end = d.end;
        clock = a.clock;
        number = j;
        before = omega arith;
        snooped = d.snooped;
        deferred = d.deferred;
        claims = d.claims;
        agent = ap (λ (g : Grant). g.agent) a.made;
        line = d.names;
        owns = sym (ap (λ (g : Grant). g.owns) a.made)
            ∙ ap is_owner_request (live-request w j d.end.first d.snooped.tied.first);
        begun = begun.0;
        early = omega arith;
        out = last-outstanding r n d.end.first d.claim h begun.0 (omega arith) ends;
      },
      ends,
    )

-- it is the live request that the reply serves
pub ending-served : (r : Run) (n q : ℕ) (s : SnoopEnd) (grant : Grant) (h : Reaches r (n + 1))
    (e : is_end_at (past_of r) n q ≡ true) (below : snoop_end_below (past_of r) (n + 1) q ≡ Some s)
    (none : s.claim ≡ None) (made : s.grant ≡ Some grant)
    → option_and_then (live_clock_of r.trace)
    (served_number r.trace (turns_in (past_of r).moments) (live_number_of r.trace q))
    ≡ Some (ending-serves r n q s grant h e below none made).0.end.first
unfolding ending-serves
ending-served r n q s grant h e below none made = grind (arith, live-at)

-- a request stops being outstanding by its own end, for it is not Deferred
pub record LeftByOwn (s : SnoopEnd) (claim : Claim) : Type 0 where
  pub claimed : s.claim ≡ Some claim
  pub first : s.first ≡ claim.first
  pub kept : is_deferral s.outcome ≡ false

-- or by the end of the reply to it
pub record LeftByReply (s : SnoopEnd) (claim : Claim) : Type 0 where
  pub unclaimed : s.claim ≡ None
  pub grant : Grant
  pub grants : s.grant ≡ Some grant
  pub agent : grant.agent ≡ claim.agent
  pub line : grant.line ≡ claim.line

-- the request with this claim stops being outstanding by the end at n of a request with this snoop end
pub record LeavesByEnd (r : Run) (n : ℕ) (claim : Claim) : Type 0 where
  pub first : ℕ
  pub end : SnoopEnd
  pub ends : is_end_at (past_of r) n first ≡ true
  pub snooped : snoop_end_below (past_of r) (n + 1) first ≡ Some end
  pub how : LeftByOwn end claim ⊎ LeftByReply end claim

own-leaves : (r : Run) (n i q : ℕ) (claim : Claim) → Reaches r (n + 1) → begun_at (past_of r) q ≡ Some claim
    → q < n → live_clock_of r.trace i ≡ Some q → is_deferred r.trace i ≡ false → end_of r.trace i ≡ Some n
    → LeavesByEnd r n claim
own-leaves r n i q claim h begun below clock plain end =
    let w = r.trace in
    let long = h.long in
    let o = orderly-whole r n h.timely (omega arith) in
    let k = begun-want r q claim h.timely h.bounds (omega arith) begun in
    let m = has-end w i n o end in
    let before = m.before in
    let upto = m.upto in
    let tied = snoop-tied r i m.snoop m.is_snoop in
    let snooped = snooped-by r m.snoop i tied.0 tied.1 in
    let first = tied.1.first in
    let same : tied.0.first ≡ q = cc in
    record {
      first = q;
      end = tied.0;
      ends = number-ended r i n q (omega arith) o (record { end = end; first = clock });
      snooped = subst (λ x. snoop_end_below (past_of r) (n + 1) x ≡ Some tied.0) same
          (snoop-below r n m.snoop tied.0 h (omega arith) tied.1.there);
      how = inl (record {
        claimed = tied.1.claim ∙ ap (claim_at w) same ∙ k.claims;
        first = same ∙ sym k.first;
        kept = sym (told-same r n m.snoop i m.response tied.0 h snooped m.is_response m.upto) ∙ plain;
      });
    }

reply-leaves : (r : Run) (n i q : ℕ) (claim : Claim) → Reaches r (n + 1) → begun_at (past_of r) q ≡ Some claim
    → q < n → live_clock_of r.trace i ≡ Some q → is_deferred r.trace i ≡ true
    → last_clock_of r.trace i ≡ Some n → LeavesByEnd r n claim
unfolding reply_end_of grant_to
reply-leaves r n i q claim h begun below clock deferred last =
    let w = r.trace in
    let o = orderly-whole r n h.timely (omega arith) in
    let k = begun-want r q claim h.timely h.bounds (omega arith) begun in
    let p = deferred_response w i deferred in
    let own = has-end w i p.0 o p.2 in
    let tied = snoop-tied r i own.snoop own.is_snoop in
    let snooped = snooped-by r own.snoop i tied.0 tied.1 in
    let same : tied.0.first ≡ q = cc in
    let j = and-then (end_of w) (reply_number_of w i) n (sym (last_clock_of-deferred w i deferred) ∙ last) in
    let reply = has-reply w i j.0 j.1 in
    let m = has-end w j.0 n o j.2 in
    let at : m.clock ≡ reply.clock = cc in
    let there : reply.response ≡ p.0 = cc in
    let put_off : IsPutOff r claim.line own.snoop i = record {
      end = tied.0;
      snooped = snooped;
      deferred = sym (told-same r n own.snoop i p.0 tied.0 h snooped p.1 (omega arith)) ∙ deferred;
      claim = claim;
      claims = tied.1.claim ∙ ap (claim_at w) same ∙ k.claims;
      names = refl;
    } in
    let g = reply-grants r claim.line own.snoop i j.0 m.snoop h.timely (wants-lawfully r h.bounds) h.bounds.few_ahead
    put_off j.1 m.is_snoop in
    grind (arith, number-ended, snoop-below)

-- what stops being outstanding at n is cancelled there, or leaves by an end
pub last-says : (r : Run) (n q : ℕ) (claim : Claim) → Reaches r (n + 1) → begun_at (past_of r) q ≡ Some claim
    → q < n → is_last_clock r.trace n q ≡ true
    → (cancelled_in (past_of r) n ≡ Some q) ⊎ LeavesByEnd r n claim
unfolding is_last_clock is_cancelled
last-says r n q claim h begun below last =
    let w = r.trace in
    let long = h.long in
    let k = begun-want r q claim h.timely h.bounds (omega arith) begun in
    let i = live_number_of w q in
    elim (or_cases (line_at AERR w (q + 3) && nat_eq (q + 3) n) (is_live w q && is_at (last_clock_of w i) n) last) [
      | inl t ↦
          let parts = and_parts (line_at AERR w (q + 3)) (nat_eq (q + 3) n) t in
          let at = eqb-true (q + 3) n parts.1 in
          inl (subst (λ c. cancelled_in (past_of r) c ≡ Some q) at (cancelled-at r q (omega arith) k.ads parts.0))
      | inr t ↦
          let parts = and_parts (is_live w q) (is_at (last_clock_of w i) n) t in
          let clock = live_clock_of-number w q (omega arith) parts.0 in
          let at = is_at-some (last_clock_of w i) n parts.1 in
          inr (elim (cases_Bool (is_deferred w i)) [
            | inr plain ↦ own-leaves r n i q claim h begun below clock plain (sym (last_clock_of-plain w i plain) ∙ at)
            | inl deferred ↦ reply-leaves r n i q claim h begun below clock deferred at
          ])
    ]
