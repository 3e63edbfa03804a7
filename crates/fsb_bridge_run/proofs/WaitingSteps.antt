-- Which requests wait for their replies, one clock on.
use Rattle.fsb_bridge_run.proofs.Words
use Words.{ℕ, ◌+◌, ◌<◌, ◌≤◌, ◌≡◌, ◌≢◌, true, false, not, ◌&&◌, List, [], ◌∷◌, ◌++◌, Some, None, nat_eq, sym, ap, subst}
use Words.{◌∙◌, arith, inl, inr, option_and_then, and_from, and_parts, both_ways, cases_lt, cases_order, eq-eqb}
use Words.{false_from_ne_true, ne_eqb, not-true, is_before, is_some_and, is_before-from, is_before-parts, Request}
use Words.{Trace, request_at, reply_number_of, is_deferral, is_settled_deferred, is_reply, is_reply_kind, live_clock_of}
use Words.{live_count, live_request_of, snoop_end_of, is_reply-some, live_below_count, snoop_end_of-clock}
use Words.{snoop_end_of-rises, snooped_at, SnoopEnd, Run, past_of, one_end, snoop-tied, and-then, IsSnooped, answered}
use Words.{orderly-whole, same-both, Reaches, waiting_at, waiting_besides, waits, turns_of}
use Rattle.fsb_bridge_run.proofs.DueReplies.{is-replied}
use Rattle.fsb_bridge_run.proofs.Listed.{all_where-added, all_where-below}
use Rattle.fsb_bridge_run.proofs.OwnIds.{one-id, request-waiting, same-dids}
use Rattle.fsb_bridge_run.proofs.Waiting.{earlier, is_replied, reply-parts, waits-from, waits-parts}

-- a request that waits at the next clock waits already, if its snoop end lies below
waits-before : (w : Trace) (turns : List ℕ) (c i t : ℕ) → waits w turns (c + 1) i ≡ true → snoop_end_of w i ≡ Some t
    → t < c → waits w turns c i ≡ true
waits-before w turns c i t e snoop l =
    let a = waits-parts w turns (c + 1) i e in
    waits-from w turns c i t a.deferred snoop l
    (earlier (option_and_then (snoop_end_of w) (reply_number_of w i)) c (c + 1) (omega arith) a.unreplied)

-- one that waits goes on, if its reply has its snoop end elsewhere
waits-on : (w : Trace) (turns : List ℕ) (c i : ℕ) → waits w turns c i ≡ true
    → ((j : ℕ) → reply_number_of w i ≡ Some j → snoop_end_of w j ≡ Some c → ⊥) → waits w turns (c + 1) i ≡ true
waits-on w turns c i e none =
    let a = waits-parts w turns c i e in
    grind (arith, waits-from, is_before-parts, is_before-from)

-- a request that is Deferred at the clock waits from then on
pub waits-new : (r : Run) (c i : ℕ) → Reaches r (c + 1) → snoop_end_of r.trace i ≡ Some c
    → is_settled_deferred r.trace (turns_of r) i ≡ true → waits r.trace (turns_of r) (c + 1) i ≡ true
waits-new r c i h e deferred =
    let w = r.trace in
    let long = h.long in
    let o = option_and_then (snoop_end_of w) (reply_number_of w i) in
    waits-from w (turns_of r) (c + 1) i c deferred e (omega arith) (false_from_ne_true (is_before o (c + 1)) (λ t.
    let x = is_before-parts o (c + 1) t in
    let upto = x.2 in
    let j = and-then (snoop_end_of w) (reply_number_of w i) x.0 x.1 in
    let k = is-replied w i j.0 j.1 in
    let reply = reply-parts w i k.clock k.reply in
    let after = reply.after in
    let a = answered w i reply.response (orderly-whole r c h.timely (omega arith)) reply.is_response in
    let gap = a.before in
    let is_snoop = a.is_snoop in
    let here : a.snoop ≡ c = cc in
    let m = snoop_end_of-clock w j.0 x.0 j.2 in
    let above = m.above in
    let one = m.is_clock in
    let two = k.first in
    let there : m.clock ≡ k.clock = cc in
    omega arith))

-- where the clock is no snoop end, the same wait
pub quiet-waiting : (r : Run) (c : ℕ) → snooped_at (past_of r) c ≡ None
    → waiting_at r.trace (turns_of r) (c + 1) ≡ waiting_at r.trace (turns_of r) c
unfolding waiting_at
quiet-waiting r c quiet =
    let w = r.trace in
    let turns = turns_of r in
    all_where-below (waits w turns (c + 1)) (waits w turns c) (live_count w) (λ i l.
    same-both (waits w turns (c + 1) i) (waits w turns c i)
    (λ e.
    let a = waits-parts w turns (c + 1) i e in
    let upto = a.below in
    elim (cases_lt a.snoop c) [
      | inl less ↦ waits-before w turns c i a.snoop e a.is_snoop less
      | inr more ↦
          let same : a.snoop ≡ c = omega arith in
          absurd (none i (subst (λ k. snoop_end_of w i ≡ Some k) same a.is_snoop))
    ])
    (λ e. waits-on w turns c i e (λ j f g. none j g)))
  where
    none : (j : ℕ) → snoop_end_of r.trace j ≡ Some c → ⊥
    none j e = grind (arith, snoop-tied)

-- live request i, whose snoop end is the clock, and its request
pub record IsSnoopedHere (r : Run) (c i : ℕ) (s : SnoopEnd) (request : Request) : Type 0 where
  pub snooped : IsSnooped r c i s
  pub decoded : request_at r.trace s.first ≡ Some request

pub settled-here : (r : Run) (c i : ℕ) (s : SnoopEnd) → IsSnooped r c i s
    → is_settled_deferred r.trace (turns_of r) i ≡ is_deferral s.outcome
unfolding is_settled_deferred is_some_and
settled-here r c i s k = ap (λ o. is_some_and o is_deferral) k.tied.outcome

-- the snoop end of a request that is no reply ends no wait
pub plain-on : (r : Run) (c i k : ℕ) (s : SnoopEnd) (request : Request) → IsSnoopedHere r c i s request
    → is_reply_kind request.kind ≡ false → waits r.trace (turns_of r) c k ≡ true
    → waits r.trace (turns_of r) (c + 1) k ≡ true
plain-on r c i k s request here plain e =
    let w = r.trace in
    waits-on w (turns_of r) c k e (λ j number snoop.
    let reply = is-replied w k j number in
    let parts = reply-parts w k reply.clock reply.reply in
    let same = one_end w c j i snoop here.snooped.tied.reached in
    let first : live_clock_of w i ≡ Some reply.clock = grind arith in
    let is = here.snooped.tied.first in
    let clock : reply.clock ≡ s.first = cc in
    let replies = subst (λ x. is_reply (request_at w x) ≡ true) clock parts.replies in
    both_ways (is_reply_kind request.kind) plain
    (sym (ap is_reply here.decoded ∙ is_reply-some request) ∙ replies))

-- what waits at the next clock, and is not the request whose snoop end this is, waits already
other-before : (r : Run) (c i k : ℕ) (s : SnoopEnd) → IsSnooped r c i s → k ≢ i
    → waits r.trace (turns_of r) (c + 1) k ≡ true → waits r.trace (turns_of r) c k ≡ true
other-before r c i k s here other e =
    let w = r.trace in
    let a = waits-parts w (turns_of r) (c + 1) k e in
    grind (arith, waits-before, one_end)

-- that one waits only if it is Deferred
itself-deferred : (r : Run) (c i k : ℕ) (s : SnoopEnd) → IsSnooped r c i s → k ≡ i
    → waits r.trace (turns_of r) (c + 1) k ≡ true → is_deferral s.outcome ≡ true
itself-deferred r c i k s here same e =
    let a = waits-parts r.trace (turns_of r) (c + 1) k e in
    sym (settled-here r c i s here)
    ∙ subst (λ x. is_settled_deferred r.trace (turns_of r) x ≡ true) same a.deferred

-- where it is neither a reply nor Deferred, the same wait
pub plain-waiting : (r : Run) (c i : ℕ) (s : SnoopEnd) (request : Request) → IsSnoopedHere r c i s request
    → is_reply_kind request.kind ≡ false → is_deferral s.outcome ≡ false
    → waiting_at r.trace (turns_of r) (c + 1) ≡ waiting_at r.trace (turns_of r) c
unfolding waiting_at
plain-waiting r c i s request here plain kept = grind (arith, other-before, itself-deferred, plain-on)

-- where it is Deferred, it comes behind those that wait
pub deferred-waiting : (r : Run) (c i : ℕ) (s : SnoopEnd) (request : Request) → Reaches r (c + 1)
    → IsSnoopedHere r c i s request → is_reply_kind request.kind ≡ false → is_deferral s.outcome ≡ true
    → waiting_at r.trace (turns_of r) (c + 1) ≡ waiting_at r.trace (turns_of r) c ++ i ∷ []
unfolding waiting_at
deferred-waiting r c i s request h here plain deferred =
    grind (arith, all_where-added, live_below_count, low, waits-new, settled-here, other-before, plain-on)
  where
    low : (k : ℕ) → waits r.trace (turns_of r) c k ≡ true → k < i
    low k e =
        let a = waits-parts r.trace (turns_of r) c k e in
        let below = a.below in
        let snoop = a.is_snoop in
        let reached = here.snooped.tied.reached in
        elim (cases_order k i) [
          | inl same ↦
              let there : snoop_end_of r.trace i ≡ Some a.snoop =
              subst (λ x. snoop_end_of r.trace x ≡ Some a.snoop) same snoop in
              let at : a.snoop ≡ c = cc in
              absurd (omega arith)
          | inr other ↦ elim other [
            | inl less ↦ less
            | inr more ↦
                let rise = snoop_end_of-rises r.trace i k a.snoop more snoop in
                let there = rise.1 in
                let at : rise.0 ≡ c = cc in
                let gap = rise.2 in
                absurd (omega arith)
          ]
        ]

-- a reply answers one of the requests that wait, alone
pub one-taker : (r : Run) (n c i k j : ℕ) → Reaches r n → c ≤ n → waits r.trace (turns_of r) c k ≡ true
    → reply_number_of r.trace k ≡ Some i → waits r.trace (turns_of r) c j ≡ true
    → reply_number_of r.trace j ≡ Some i → k ≡ j
one-taker r n c i k j h low waiting number also same =
    let w = r.trace in
    let one = is-replied w k i number in
    let two = is-replied w j i same in
    let first = one.first in
    let second = two.first in
    let clock : one.clock ≡ two.clock = cc in
    let x = request-waiting r n c k h waiting in
    let y = request-waiting r n c j h also in
    let x-parts = reply-parts w k one.clock one.reply in
    let y-parts = reply-parts w j two.clock two.reply in
    let did = same-dids (request_at w one.clock) (request_at w two.clock) (live_request_of w k)
    (live_request_of w j) x.0 y.0 (ap (request_at w) clock) x.1 y.1 x-parts.same_id y-parts.same_id in
    one-id r n c k j x.0 y.0 h low waiting also x.1 y.1 did

-- where it is the reply to one that waits, that one leaves
pub replied-waiting : (r : Run) (c i j : ℕ) (s : SnoopEnd) (reply : Request) → Reaches r (c + 1)
    → IsSnoopedHere r c i s reply → is_deferral s.outcome ≡ false → waits r.trace (turns_of r) c j ≡ true
    → reply_number_of r.trace j ≡ Some i
    → waiting_at r.trace (turns_of r) (c + 1) ≡ waiting_besides r.trace (turns_of r) c j
unfolding waiting_at waiting_besides
replied-waiting r c i j s reply h here kept waiting number =
    let w = r.trace in
    grind (arith, there, back)
  where
    there : (k : ℕ) → waits r.trace (turns_of r) (c + 1) k ≡ true
        → (waits r.trace (turns_of r) c k && not (nat_eq k j)) ≡ true
    there k e =
        let w = r.trace in
        let before = other-before r c i k s here.snooped
        (λ same. both_ways (is_deferral s.outcome) kept (itself-deferred r c i k s here.snooped same e)) e in
        let a = waits-parts w (turns_of r) (c + 1) k e in
        and_from _ _ before (ap not (ne_eqb k j (λ same.
        let mine : reply_number_of w k ≡ Some i = subst (λ x. reply_number_of w x ≡ Some i) (sym same) number in
        both_ways (is_replied w (c + 1) k) a.unreplied
        (is_before-from (option_and_then (snoop_end_of w) (reply_number_of w k)) c (c + 1)
        (ap (option_and_then (snoop_end_of w)) mine ∙ here.snooped.tied.reached) (omega arith)))))

    back : (k : ℕ) → (waits r.trace (turns_of r) c k && not (nat_eq k j)) ≡ true
        → waits r.trace (turns_of r) (c + 1) k ≡ true
    back k e =
        let w = r.trace in
        let parts = and_parts (waits w (turns_of r) c k) (not (nat_eq k j)) e in
        waits-on w (turns_of r) c k parts.0 (λ m other snoop.
        let same = one_end w c m i snoop here.snooped.tied.reached in
        let also : reply_number_of w k ≡ Some i = other ∙ ap Some same in
        let number-same = one-taker r (c + 1) c i k j h (omega arith) parts.0 also waiting number in
        both_ways (nat_eq k j) (not-true (nat_eq k j) parts.1) (eq-eqb k j number-same))
