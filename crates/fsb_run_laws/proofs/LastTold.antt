-- Which requests stop being outstanding at a clock, by its moment.
use Rattle.fsb_run_laws.proofs.Words
use Words.{ℕ, ◌+◌, ◌<◌, ◌≤◌, ◌≡◌, true, false, not, ◌&&◌, [], Some, None, length, nat_eq, refl, sym, ap, subst, ◌∙◌}
use Words.{inl, inr, arith, list_any, and_parts, both_ways, cases_Bool, eqb-true, false_from_ne_true, is_at}
use Words.{is_some_and, is_at-from, is_at-some, AERR, line_at, Trace, last_clock_of, reply_end_of, reply_number_of}
use Words.{is_deferral, is_deferred, response_clock_of, is_cancelled, is_live, live_clock_of, live_number_of, end_of}
use Words.{AgreeTo-sym, is_deferred-stays, live_clock_of-number, response_clock_of-stays, snoop_end_of-stays}
use Words.{deferred_response, last_clock_of-deferred, last_clock_of-plain, begun_at, ended_requests, is_end_at}
use Words.{snooped_at, is_last_clock, grant_to, Claim, Grant, SnoopEnd, past_of, Run, run_to, one_end, snoop-tied}
use Words.{and-then, run_to-agrees, told-as-settled, turned-at, cancelled_in, snoop_end_below, IsSnooped, answered}
use Words.{begun-want, cancelled-at, cancels, claimed, ended-number, has-reply, live-at, number-ended, orderly-whole}
use Words.{reply-end-at, snooped-by, Reaches}
use Rattle.fsb_run_laws.proofs.BroughtLines.{snoop-below}
use Rattle.fsb_run_laws.proofs.LastClocks.{has-end}

-- a request that has responded is Deferred as told where it is so as settled
pub told-same : (r : Run) (n t k x : ℕ) (s : SnoopEnd) → Reaches r (n + 1) → IsSnooped r t k s
    → response_clock_of r.trace k ≡ Some x → x ≤ n → is_deferred r.trace k ≡ is_deferral s.outcome
unfolding is_deferred is_some_and
told-same r n t k x s h snooped e low =
    let w = r.trace in
    let v = (run_to r n).trace in
    let long = h.long in
    let l : n < length w = omega arith in
    let agree = run_to-agrees r n l in
    let back = AgreeTo-sym (n + 1) w v agree in
    let a = answered w k x (orderly-whole r n h.timely l) e in
    let before = a.before in
    let here = response_clock_of-stays (n + 1) w v k x agree (omega arith) e in
    let told = told-as-settled r n k x h.timely l here in
    let reached = snoop_end_of-stays (n + 1) w v k a.snoop agree (omega arith) a.is_snoop in
    let is = told.is_snoop in
    let there = snooped.tied.reached in
    let is_snoop = a.is_snoop in
    let one : a.snoop ≡ t = cc in
    let two : told.snoop ≡ a.snoop = cc in
    let same : told.snoop ≡ t = two ∙ one in
    let turned = turned-at r n k told.snoop h.timely l told.is_snoop in
    let first = subst (λ x. snooped_at (past_of r) x ≡ Some turned.end) same turned.there in
    let second = snooped.tied.there in
    let end : turned.end ≡ s = cc in
    is_deferred-stays (n + 1) w v k a.snoop x agree (omega arith) a.is_snoop (omega arith) e
    ∙ ap (λ o. is_some_and o is_deferral) (told.outcome ∙ turned.outcome) ∙ ap (λ x. is_deferral x.outcome) end

-- the last clock of a live request
pub last-live : (w : Trace) (n i q : ℕ) → live_clock_of w i ≡ Some q → is_last_clock w n q ≡ is_at (last_clock_of w i) n
unfolding is_last_clock is_live is_cancelled
last-live w n i q e =
    let k = live-at w i q e in
    rw (k.kept, k.asks, k.number) refl

-- what ends at n, with its snoop end
pub record EndsWith (r : Run) (n q : ℕ) (s : SnoopEnd) : Type 0 where
  pub number : ℕ
  pub end : end_of r.trace number ≡ Some n
  pub first : live_clock_of r.trace number ≡ Some q
  pub response : ℕ
  pub is_response : response_clock_of r.trace number ≡ Some response
  pub upto : response ≤ n
  pub clock : ℕ
  pub snooped : IsSnooped r clock number s

pub ends-with : (r : Run) (n q : ℕ) (s : SnoopEnd) → Reaches r (n + 1) → is_end_at (past_of r) n q ≡ true
    → snoop_end_below (past_of r) (n + 1) q ≡ Some s → EndsWith r n q s
ends-with r n q s h e below =
    let w = r.trace in
    let l : n < length w = omega arith in
    let k = ended-number r n q h.timely l e in
    let m = has-end w k.0 n (orderly-whole r n h.timely l) k.1.end in
    grind (arith, snoop-tied, snooped-by, snoop-below)

-- a request that ends at n stops being outstanding there, unless it is Deferred
pub ends-last : (r : Run) (n q : ℕ) (s : SnoopEnd) → Reaches r (n + 1) → is_end_at (past_of r) n q ≡ true
    → snoop_end_below (past_of r) (n + 1) q ≡ Some s → is_last_clock r.trace n q ≡ not (is_deferral s.outcome)
unfolding reply_end_of
ends-last r n q s h e below =
    let w = r.trace in
    let long = h.long in
    let k = ends-with r n q s h e below in
    let i = k.number in
    let o = orderly-whole r n h.timely (omega arith) in
    let told = told-same r n k.clock i k.response s h k.snooped k.is_response k.upto in
    last-live w n i q k.first
    ∙ elim (cases_Bool (is_deferred w i)) [
      | inr plain ↦
          is_at-from (last_clock_of w i) n (last_clock_of-plain w i plain ∙ k.end) ∙ sym (ap not (sym told ∙ plain))
      | inl deferred ↦
          false_from_ne_true (is_at (last_clock_of w i) n) (λ t.
          let last = is_at-some (last_clock_of w i) n t in
          let j = and-then (end_of w) (reply_number_of w i) n (sym (last_clock_of-deferred w i deferred) ∙ last) in
          let reply = has-reply w i j.0 j.1 in
          let m = has-end w j.0 n o j.2 in
          let p = deferred_response w i deferred in
          let end = k.end in
          let at = p.2 in
          let same : p.0 ≡ n = cc in
          let answers = reply.is_response in
          let responds = p.1 in
          let there : reply.response ≡ p.0 = cc in
          let first = reply.first in
          let is = m.is_clock in
          let clock : reply.clock ≡ m.clock = cc in
          let after = reply.after in
          let early = m.early in
          omega arith)
          ∙ sym (ap not (sym told ∙ deferred))
    ]

-- the request that a reply serves stops being outstanding with the reply's end
pub reply-ends-last : (r : Run) (n q : ℕ) (s : SnoopEnd) (grant : Grant) → Reaches r (n + 1)
    → is_end_at (past_of r) n q ≡ true → snoop_end_below (past_of r) (n + 1) q ≡ Some s → s.claim ≡ None
    → s.grant ≡ Some grant
    → (claim : Claim) × (claim.agent ≡ grant.agent) × (claim.line ≡ grant.line)
    × (is_last_clock r.trace n claim.first ≡ true)
unfolding reply_end_of grant_to
reply-ends-last r n q s grant h e below none made =
    let w = r.trace in
    let long = h.long in
    let k = ends-with r n q s h e below in
    let a = reply-end-at r grant.line k.clock s grant k.snooped.tied.there none made refl in
    let number = one_end w k.clock a.number k.number a.snooped.tied.reached k.snooped.tied.reached in
    let j = a.served in
    let d = a.put_off in
    let reply = has-reply w j a.number a.reply in
    let first = reply.first in
    let after = reply.after in
    let m = has-end w k.number n (orderly-whole r n h.timely (omega arith)) k.end in
    let early = m.early in
    let there : live_clock_of w k.number ≡ Some reply.clock = grind arith in
    let is = m.is_clock in
    let clock : m.clock ≡ reply.clock = cc in
    let deferred = told-same r n a.clock j reply.response d.end h d.snooped reply.is_response (omega arith)
    ∙ d.deferred in
    let last : last_clock_of w j ≡ Some n = grind (arith, last_clock_of-deferred) in
    let begins = (claimed w d.end.first d.claim (sym d.snooped.tied.claim ∙ d.claims)).0 in (
      d.claim,
      ap (λ (g : Grant). g.agent) a.made,
      d.names,
      ap (is_last_clock w n) begins ∙ last-live w n j d.end.first d.snooped.tied.first
          ∙ is_at-from (last_clock_of w j) n last,
    )

-- a request that is cancelled at n stops being outstanding there
pub cancelled-last : (r : Run) (n q : ℕ) → Reaches r (n + 1) → cancelled_in (past_of r) n ≡ Some q
    → is_last_clock r.trace n q ≡ true
unfolding is_last_clock is_cancelled
cancelled-last r n q h e = grind (arith, cancels)

-- where no request ends at n, none has its end there
none-ends : (r : Run) (n i x : ℕ) → Reaches r (n + 1) → ended_requests (past_of r) n ≡ [] → end_of r.trace i ≡ Some n
    → live_clock_of r.trace i ≡ Some x → ⊥
unfolding is_end_at
none-ends r n i x h unended end first =
    let long = h.long in
    let l : n < length r.trace = omega arith in
    let there = number-ended r i n x l (orderly-whole r n h.timely l) (record { end = end; first = first }) in
    both_ways (list_any (nat_eq x) (ended_requests (past_of r) n)) (ap (list_any (nat_eq x)) unended) there

-- so none stops being outstanding by an end
none-last : (r : Run) (n i : ℕ) → Reaches r (n + 1) → ended_requests (past_of r) n ≡ [] → (q : ℕ)
    → live_clock_of r.trace i ≡ Some q → last_clock_of r.trace i ≡ Some n → ⊥
unfolding reply_end_of
none-last r n i h unended q clock at =
    let w = r.trace in
    elim (cases_Bool (is_deferred w i)) [
      | inr plain ↦ none-ends r n i q h unended (sym (last_clock_of-plain w i plain) ∙ at) clock
      | inl deferred ↦
          let j = and-then (end_of w) (reply_number_of w i) n (sym (last_clock_of-deferred w i deferred) ∙ at) in
          let reply = has-reply w i j.0 j.1 in
          none-ends r n j.0 reply.clock h unended j.2 reply.first
    ]

-- and none by a cancellation, where none is cancelled at n
none-cancelled : (r : Run) (n q : ℕ) (claim : Claim) → Reaches r (n + 1) → begun_at (past_of r) q ≡ Some claim → q < n
    → cancelled_in (past_of r) n ≡ None → line_at AERR r.trace (q + 3) ≡ true → q + 3 ≡ n → ⊥
none-cancelled r n q claim h begun below uncancelled error at =
    let k = begun-want r q claim h.timely h.bounds (omega arith) begun in
    grind (arith, cancelled-at)

-- where none is cancelled and none ends, none stops being outstanding
pub quiet-last : (r : Run) (n q : ℕ) (claim : Claim) → Reaches r (n + 1) → begun_at (past_of r) q ≡ Some claim
    → q < n → cancelled_in (past_of r) n ≡ None → ended_requests (past_of r) n ≡ [] → is_last_clock r.trace n q ≡ false
unfolding is_last_clock is_cancelled
quiet-last r n q claim h begun below uncancelled unended =
    let w = r.trace in
    let long = h.long in
    let i = live_number_of w q in
    let kept : (line_at AERR w (q + 3) && nat_eq (q + 3) n) ≡ false = false_from_ne_true _ (λ t.
    let parts = and_parts (line_at AERR w (q + 3)) (nat_eq (q + 3) n) t in
    none-cancelled r n q claim h begun below uncancelled parts.0 (eqb-true (q + 3) n parts.1)) in
    let going : (is_live w q && is_at (last_clock_of w i) n) ≡ false = false_from_ne_true _ (λ t.
    let parts = and_parts (is_live w q) (is_at (last_clock_of w i) n) t in
    none-last r n i h unended q (live_clock_of-number w q (omega arith) parts.0)
    (is_at-some (last_clock_of w i) n parts.1)) in
    rw (kept, going) refl
