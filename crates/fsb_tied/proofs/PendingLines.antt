-- A line with a deferral that is not replied to is pending: requests for it are retried.
use Rattle.fsb_tied.proofs.Words
use Words.{ℕ, zero, suc, ◌+◌, ◌<◌, ◌≤◌, ◌≡◌, true, false, not, List, Option, Some, length, slice_index, take, refl, sym}
use Words.{ap, subst, ◌∙◌, arith, inl, inr, option_and_then, and_from, cases_lt, false_from_ne_true, take-append-le}
use Words.{take_all, is_before, is_some_and, any_where-at, is_at-from, is_before-from, is_before-parts, Request, Retry}
use Words.{is_never_held_up, Trace, request_at, reply_number_of, is_deferral, is_settled_deferred, settled_by}
use Words.{settled_outcome_of, line_of, live_clock_of, live_count, snoop_end_of, AgreeTo-sym, live_below_count}
use Words.{live_clock_of-stays, request_at-agree, settled_outcome_of-ended, snoop_end_of-stays, claim_at}
use Words.{effective_choice, number_of_turn, snoop_end_with, turns_in, Claim, SnoopEnd, Run, moments_below, past_of}
use Words.{past_to, run_to, Timely, length-moments, line_of-agree, moment-snooped, settled_by-agree, snoop_of}
use Words.{snooped-there, deferral_at, deferred_to, defers_line, and-then, past-cut, run_to-agrees, some-and, turned-at}
use Rattle.fsb_hazard.specs.declared.choice.Choice.{Choice}
use Rattle.fsb_script.specs.declared.plan.Window.{Window}
use Rattle.fsb_trace.specs.Deferral.{is_pending, keeps_pending}
use Rattle.fsb_tied.proofs.RepliesSeen.{reply-snooped}
use Rattle.fsb_tied.proofs.SnoopClaims.{IsSnooped, snooped-in}

-- t is the snoop end of live request j, which is for the line and is Deferred
pub record IsPutOff (r : Run) (line t j : ℕ) : Type 0 where
  pub end : SnoopEnd
  pub snooped : IsSnooped r t j end
  pub deferred : is_deferral end.outcome ≡ true
  pub claim : Claim
  pub claims : end.claim ≡ Some claim
  pub names : claim.line ≡ line

-- no reply to live request j has its snoop end below n
abbrev pub HasNoReply : Run → ℕ → ℕ → Type 0
HasNoReply r j n = (i x : ℕ) → reply_number_of r.trace j ≡ Some i → snoop_end_of r.trace i ≡ Some x → x < n → ⊥

pub put-off-at : (r : Run) (line t : ℕ) → defers_line (past_of r) line t ≡ true → (j : ℕ) × IsPutOff r line t j
unfolding defers_line
put-off-at r line t e = grind (arith, some-and, snooped-in)

pub defers-there : (r : Run) (line t j : ℕ) → IsPutOff r line t j → defers_line (past_of r) line t ≡ true
unfolding defers_line is_some_and
defers-there r line t j d = grind arith

-- what is deferred by it
pub put-off-as : (r : Run) (line t j : ℕ) → (d : IsPutOff r line t j)
    → deferral_at (past_of r) line t ≡ Some (deferred_to (past_of r) line t d.end d.claim.agent)
unfolding deferral_at
put-off-as r line t j d = rw (d.snooped.tied.there, d.claims) refl

-- the line of a claim
pub claim-names : (w : Trace) (q : ℕ) (claim : Claim) → claim_at w q ≡ Some claim → line_of w q ≡ Some claim.line
unfolding claim_at
claim-names w q claim e = grind arith

-- the moments below a clock begin those below a later one
moments-begin : (r : Run) (n m : ℕ) → n ≤ m → take n (moments_below r m) ≡ moments_below r n
unfolding moments_below
moments-begin r n zero l = let none : n ≡ zero = omega arith in rw none refl
moments-begin r n (suc m) l =
    elim (cases_lt n (suc m)) [
      | inl less ↦
          take-append-le n (moments_below r m) _ (let e = length-moments r m in omega arith)
          ∙ moments-begin r n m (omega arith)
      | inr more ↦
          let same : n ≡ suc m = omega arith in
          rw same (take_all (suc m) (moments_below r (suc m)) (let e = length-moments r (suc m) in omega arith))
    ]

moments-cut : (r : Run) (m : ℕ) → m < length r.trace → (past_of (run_to r m)).moments ≡ moments_below r (m + 1)
unfolding past_to past_of
moments-cut r m l = ap (λ p. p.moments) (past-cut r m l) ∙ moments-begin r (m + 1) (length r.trace) (omega arith)

-- the turn of a live request is there in the turns so far
pub turn-so-far : (r : Run) (n t j : ℕ) (s : SnoopEnd) → Timely r → IsSnooped r t j s → t < n → n < length r.trace
    → slice_index (turns_in (moments_below r n)) j ≡ number_of_turn s.turn
turn-so-far r zero t j s h k less l = absurd (omega arith)
turn-so-far r (suc m) t j s h k less l =
    let agree = run_to-agrees r m (omega arith) in
    let there = snoop_end_of-stays (m + 1) r.trace (run_to r m).trace j t agree (omega arith) k.tied.reached in
    let turned = turned-at r m j t h (omega arith) there in
    let one = turned.there in
    let two = k.tied.there in
    let same : turned.end ≡ s = cc in
    let next : suc m ≡ m + 1 = omega arith in
    ap (λ x. slice_index (turns_in (moments_below r x)) j) next
    ∙ ap (λ ms. slice_index (turns_in ms) j) (sym (moments-cut r m (omega arith)))
    ∙ turned.number ∙ ap (λ x. number_of_turn x.turn) same

-- a request that is Deferred is so in the run up to a later clock
pub deferred-so-far : (r : Run) (n t j : ℕ) (s : SnoopEnd) (turns : List ℕ) → IsSnooped r t j s → t < n
    → n < length r.trace
    → slice_index turns j ≡ number_of_turn s.turn
    → settled_outcome_of (run_to r n).trace turns j ≡ Some s.outcome
deferred-so-far r n t j s turns k less l turn =
    let w = r.trace in
    let u = (run_to r n).trace in
    let agree = run_to-agrees r n l in
    let there = snoop_end_of-stays (n + 1) w u j t agree (omega arith) k.tied.reached in
    let whole = turns_in (past_of r).moments in
    settled_outcome_of-ended u turns j t there
    ∙ ap (λ x. Some (settled_by u x j t)) (turn ∙ sym k.tied.turn)
    ∙ ap Some (sym (settled_by-agree (n + 1) w u (slice_index whole j) j t agree (omega arith) k.tied.reached))
    ∙ sym (settled_outcome_of-ended w whole j t k.tied.reached) ∙ k.tied.outcome

unreplied : (r : Run) (n t j : ℕ) (s : SnoopEnd) → IsSnooped r t j s → t < n → n < length r.trace → HasNoReply r j n
    → is_before (option_and_then (snoop_end_of (run_to r n).trace) (reply_number_of (run_to r n).trace j)) n ≡ false
unreplied r n t j s k less l none =
    let w = r.trace in
    let u = (run_to r n).trace in
    let above = k.above in
    let agree = run_to-agrees r n l in
    let clock = live_clock_of-stays (n + 1) w u j s.first agree (omega arith) k.tied.first in
    false_from_ne_true _ (λ e.
    let x = is_before-parts (option_and_then (snoop_end_of u) (reply_number_of u j)) n e in
    let i = and-then (snoop_end_of u) (reply_number_of u j) x.0 x.1 in
    let below = x.2 in
    let whole = reply-snooped (n + 1) u w j i.0 s.first x.0 (AgreeTo-sym (n + 1) w u agree) clock
    (omega arith) i.1 i.2 (omega arith) in
    none i.0 x.0 whole.0 whole.1 below)

-- its line is pending there
pending-there : (r : Run) (line n t j : ℕ) → Timely r → IsPutOff r line t j → t < n → n < length r.trace
    → HasNoReply r j n
    → is_pending (run_to r n).trace (turns_in (moments_below r n)) line n ≡ true
unfolding is_pending keeps_pending is_settled_deferred is_some_and
pending-there r line n t j h d less l none =
    let w = r.trace in
    let u = (run_to r n).trace in
    let turns = turns_in (moments_below r n) in
    let k = d.snooped in
    let q = d.end.first in
    let above = k.above in
    let agree = run_to-agrees r n l in
    let clock = live_clock_of-stays (n + 1) w u j q agree (omega arith) k.tied.first in
    let there = snoop_end_of-stays (n + 1) w u j t agree (omega arith) k.tied.reached in
    let claims : claim_at w q ≡ Some d.claim = sym k.tied.claim ∙ d.claims in
    let names = ap (option_and_then (line_of u)) clock ∙ sym (line_of-agree (n + 1) w u q agree (omega arith))
    ∙ claim-names w q d.claim claims ∙ ap Some d.names in
    let settled = deferred-so-far r n t j d.end turns k less l (turn-so-far r n t j d.end h k less l) in
    any_where-at (keeps_pending u turns line n) (live_count u) j (live_below_count u j q clock)
    (and_from _ _ (and_from _ _ (and_from _ _
    (is_at-from (option_and_then (line_of u) (live_clock_of u j)) line names)
    (ap (λ o. is_some_and o is_deferral) settled ∙ d.deferred))
    (is_before-from (snoop_end_of u j) t n there less))
    (ap not (unreplied r n t j d.end k less l none)))

turn-form : (bridge : Option Window) (choices : List Choice) (w : Trace) (turns : List ℕ) (q t : ℕ) (request : Request)
    → request_at w q ≡ Some request → is_never_held_up request.kind ≡ false → is_pending w turns request.line t ≡ true
    → (effective_choice bridge choices w turns q t).turn ≡ Retry
unfolding effective_choice
turn-form bridge choices w turns q t request e held pending = rw (e, effective_choice, held, pending) refl

turn-of : (r : Run) (n i q : ℕ)
    → (snoop_of r n i q).turn
    ≡ (effective_choice r.plan.bridge (run_to r n).choices (run_to r n).trace (turns_in (moments_below r n)) q n).turn
unfolding snoop_end_with
turn-of r n i q = refl

-- so a request for it that is not kept always is retried
pub pending-retried : (r : Run) (n i : ℕ) (s : SnoopEnd) (request : Request) (line t j : ℕ) → Timely r
    → IsSnooped r n i s
    → request_at r.trace s.first ≡ Some request → request.line ≡ line → is_never_held_up request.kind ≡ false
    → IsPutOff r line t j → t < n → HasNoReply r j n → s.turn ≡ Retry
pending-retried r n i s request line t j h k e names held d less none =
    let u = (run_to r n).trace in
    let above = k.above in
    let l = k.within in
    let there : Some s ≡ Some (snoop_of r n i s.first) = grind (arith, snooped-there, moment-snooped) in
    let same : s ≡ snoop_of r n i s.first = cc in
    let decoded = sym (request_at-agree (n + 1) r.trace u s.first (run_to-agrees r n l) (omega arith)) ∙ e in
    let pending = pending-there r line n t j h d less l none in
    let of_request = subst (λ x. is_pending u (turns_in (moments_below r n)) x n ≡ true) (sym names) pending in
    ap (λ x. x.turn) same ∙ turn-of r n i s.first
    ∙ turn-form r.plan.bridge (run_to r n).choices u (turns_in (moments_below r n)) s.first n request
    decoded held of_request
