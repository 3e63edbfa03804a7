-- The grant that a moment has is the one that the whole trace gives.
use Rattle.std.proofs.Common.{ℕ, ◌+◌, ◌<◌, ◌≤◌, ◌≡◌, Bool, true, false, ◌&&◌, List, Option, Some, None, length}
use Rattle.std.proofs.Common.{slice_index, refl, sym, ap, subst, ◌∙◌, inl, inr, arith}
use Rattle.std.proofs.lemmas.Bool.{cases_lt}
use Rattle.std.specs.Option.{option_map, option_and_then}
use Rattle.fsb_count.specs.Options.{is_some_and, is_at, is_before}
use Rattle.fsb_count.proofs.Interface.{is_at-some, is_at-from, is_before-parts, is_before-from, first_where-carried}
use Rattle.fsb_count.proofs.Interface.{first_where-found, first_where-same, count_where-same, nth_where-at}
use Rattle.fsb_signal.specs.declared.lines.TheConstants.Lines.{ADS}
use Rattle.fsb_trace.specs.declared.outcome.Outcome.{Outcome}
use Rattle.fsb_trace.specs.At.{Trace}
use Rattle.fsb_trace.specs.Agree.{AgreeTo}
use Rattle.fsb_trace.specs.Requests.{live_clock_of, live_number_of, live_request_of, is_reply, have_same_id}
use Rattle.fsb_trace.specs.Snoop.{snoop_end_of}
use Rattle.fsb_trace.specs.Outcome.{response_clock_of, settled_by, is_settled_deferred, is_deferral}
use Rattle.fsb_trace.specs.Flight.{is_reply_to, is_live_reply_to, reply_clock_of, reply_number_of}
use Rattle.fsb_trace.proofs.Interface.{AgreeTo-sym, line_at-agree, request_at-agree, is_live-agree}
use Rattle.fsb_trace.proofs.Interface.{snoop_end_of-clock, snoop_end_of-stays, live_clock_of-stays}
use Rattle.fsb_trace.proofs.Interface.{response_clock_of-stays, live_request_of-stays, snoop_end_of-rises}
use Rattle.fsb_trace.proofs.Interface.{settled_outcome_of-ended}
use Rattle.fsb_timely.specs.Moments.{is_answered_by, served_number, live_claim_of, is_owner_request, is_shared_at}
use Rattle.fsb_timely.specs.Moments.{grant_to, grant_for, grant_of, wins_race, gives_line, turns_in, claim_at}
use Rattle.fsb_timely.specs.Past.{Past}
use Rattle.fsb_timely.proofs.GoingOn.{Alike, holds_line-same}
use Rattle.fsb_timely.proofs.Settled.{settled_by-agree, claim_at-agree}

-- two tests of which each gives the other are the same
same-both : (x y : Bool) → (x ≡ true → y ≡ true) → (y ≡ true → x ≡ true) → x ≡ y
same-both x y h1 h2 = grind arith

-- whether a response lies below a clock shows in the samples below it
response-kept : (n : ℕ) (w v : Trace) (j c : ℕ) → AgreeTo n w v → c ≤ n
    → is_before (response_clock_of w j) c ≡ true → is_before (response_clock_of v j) c ≡ true
response-kept n w v j c a l e =
    let h = is_before-parts (response_clock_of w j) c e in
    let r : ℕ = h.0 in
    let below : r < c = h.2 in
    is_before-from (response_clock_of v j) r c (response_clock_of-stays n w v j r a (omega arith) h.1) below

response-same : (n : ℕ) (w v : Trace) (j c : ℕ) → AgreeTo n w v → c ≤ n
    → is_before (response_clock_of w j) c ≡ is_before (response_clock_of v j) c
response-same n w v j c a l = grind (arith, response-kept)

-- a live request whose snoop end lies below n, in both traces
pub record Reached (n : ℕ) (w v : Trace) (j s : ℕ) : Type 0 where
  pub agree : AgreeTo n w v
  pub below : s < n
  pub left : snoop_end_of w j ≡ Some s
  pub right : snoop_end_of v j ≡ Some s

reached-sym : (n : ℕ) (w v : Trace) (j s : ℕ) → Reached n w v j s → Reached n v w j s
reached-sym n w v j s h = record { agree = AgreeTo-sym n w v h.agree; below = h.below; left = h.right; right = h.left }

request-same : (n : ℕ) (w v : Trace) (j s : ℕ) → Reached n w v j s → live_request_of w j ≡ live_request_of v j
request-same n w v j s h = live_request_of-stays n w v j s h.agree h.below h.left

-- what is a live reply shows three clocks after its first clock
reply-same : (n : ℕ) (w v : Trace) (j s c : ℕ) → Reached n w v j s → c + 3 < n
    → is_live_reply_to w j c ≡ is_live_reply_to v j c
unfolding is_live_reply_to is_reply_to
reply-same n w v j s c h l =
    let live = is_live-agree n w v c h.agree l in
    let ads = line_at-agree ADS n w v c h.agree (omega arith) in
    let request = request_at-agree n w v c h.agree (omega arith) in
    let answered = request-same n w v j s h in
    let response = response-same n w v j c h.agree (omega arith) in
    λ i. live i && (ads i && is_reply (request i) && have_same_id (request i) (answered i) && response i)

number-same : (n : ℕ) (w v : Trace) (c : ℕ) → AgreeTo n w v → c + 2 < n → live_number_of w c ≡ live_number_of v c
unfolding live_number_of
number-same n w v c a l = grind (arith, count_where-same, is_live-agree)

clock-by : (w : Trace) (j i q : ℕ) → live_clock_of w i ≡ Some q → reply_number_of w j ≡ Some i → (o : Option ℕ)
    → reply_clock_of w j ≡ o → reply_clock_of w j ≡ Some q
unfolding reply_number_of live_number_of live_clock_of reply_clock_of is_live_reply_to
clock-by w j i q h1 h2 o h3 = grind (arith, first_where-found, nth_where-at)

-- the first clock of a reply that is known by its number
reply-clock : (w : Trace) (j i q : ℕ) → live_clock_of w i ≡ Some q → reply_number_of w j ≡ Some i
    → reply_clock_of w j ≡ Some q
reply-clock w j i q f e = clock-by w j i q f e (reply_clock_of w j) refl

reply-number : (w : Trace) (j i q : ℕ) → reply_clock_of w j ≡ Some q → reply_number_of w j ≡ Some (live_number_of w q)
unfolding reply_number_of
reply-number w j i q e = ap (option_map (live_number_of w)) e

clock-carried : (n : ℕ) (w v : Trace) (j s q : ℕ) → Reached n w v j s → q + 3 < n → reply_clock_of w j ≡ Some q
    → reply_clock_of v j ≡ Some q
unfolding reply_clock_of
clock-carried n w v j s q h l e =
    first_where-carried (is_live_reply_to w j) (is_live_reply_to v j) (length w) (length v) q
    (record { same = λ c m. reply-same n w v j s c h (omega arith) }) (let r = h.agree.right in omega arith) e

-- that a live request is the reply to another one stays
reply-kept : (n : ℕ) (w v : Trace) (j s i q : ℕ) → Reached n w v j s → live_clock_of w i ≡ Some q → q + 3 < n
    → reply_number_of w j ≡ Some i → reply_number_of v j ≡ Some i
reply-kept n w v j s i q h f l e =
    let clock = reply-clock w j i q f e in
    let number : live_number_of w q ≡ i = (let e' = sym (reply-number w j i q clock) ∙ e in cc) in
    reply-number v j i q (clock-carried n w v j s q h l clock)
    ∙ ap Some (sym (number-same n w v q h.agree (omega arith)) ∙ number)

answers-same : (n : ℕ) (w v : Trace) (j s i q : ℕ) → Reached n w v j s → live_clock_of w i ≡ Some q
    → live_clock_of v i ≡ Some q → q + 3 < n → is_at (reply_number_of w j) i ≡ is_at (reply_number_of v j) i
answers-same n w v j s i q h f g l =
    same-both (is_at (reply_number_of w j) i) (is_at (reply_number_of v j) i)
    (λ e. is_at-from (reply_number_of v j) i (reply-kept n w v j s i q h f l (is_at-some (reply_number_of w j) i e)))
    (λ e. is_at-from (reply_number_of w j) i
    (reply-kept n v w j s i q (reached-sym n w v j s h) g l (is_at-some (reply_number_of v j) i e)))

deferred-same : (n : ℕ) (w v : Trace) (us ts : List ℕ) (j s : ℕ) → Reached n w v j s
    → slice_index us j ≡ slice_index ts j → is_settled_deferred w us j ≡ is_settled_deferred v ts j
unfolding is_settled_deferred
deferred-same n w v us ts j s h turn =
    ap (λ o. is_some_and o is_deferral) (settled_outcome_of-ended w us j s h.left
    ∙ ap Some (ap (λ k. settled_by w k j s) turn
    ∙ settled_by-agree n w v (slice_index ts j) j s h.agree h.below h.left)
    ∙ sym (settled_outcome_of-ended v ts j s h.right))

-- what is reached at the snoop end of a live request, and at those before it
reached-before : (n : ℕ) (w v : Trace) (i t j : ℕ) → Reached n w v i t → j < i → (s : ℕ) × Reached n w v j s
reached-before n w v i t j h l =
    let before = snoop_end_of-rises w j i t l h.left in
    let s : ℕ = before.0 in
    let gap : s + 3 ≤ t = before.2 in
    let less = h.below in (
      s,
      record {
        agree = h.agree;
        below = omega arith;
        left = before.1;
        right = snoop_end_of-stays n w v j s h.agree (omega arith) before.1;
      },
    )

answered-same : (n : ℕ) (w v : Trace) (us ts : List ℕ) (i t q j : ℕ) → Reached n w v i t
    → live_clock_of w i ≡ Some q → live_clock_of v i ≡ Some q → q + 3 < n → j < i
    → slice_index us j ≡ slice_index ts j → is_answered_by w us i j ≡ is_answered_by v ts i j
unfolding is_answered_by
answered-same n w v us ts i t q j h f g l m turn =
    let before = reached-before n w v i t j h m in
    let deferred = deferred-same n w v us ts j before.0 before.1 turn in
    let answers = answers-same n w v j before.0 i q before.1 f g l in
    λ k. deferred k && answers k

served-same : (n : ℕ) (w v : Trace) (us ts : List ℕ) (i t q : ℕ) → Reached n w v i t
    → live_clock_of w i ≡ Some q → live_clock_of v i ≡ Some q → q + 3 < n
    → ((j : ℕ) → j < i → slice_index us j ≡ slice_index ts j) → served_number w us i ≡ served_number v ts i
unfolding served_number
served-same n w v us ts i t q h f g l turns =
    let request = request-same n w v i t h in
    let first = first_where-same (is_answered_by w us i) (is_answered_by v ts i) i
    (record { same = λ j m. answered-same n w v us ts i t q j h f g l m (turns j m) }) in
    λ k. elim (is_reply (request k)) [ true ↦ first k | false ↦ Some i ]

served-by : (w : Trace) (us : List ℕ) (i j : ℕ) (b : Bool) → is_reply (live_request_of w i) ≡ b
    → served_number w us i ≡ Some j → j ≤ i
unfolding served_number
served-by w us i j b h1 h2 = grind (arith, first_where-found)

shared-same : (n : ℕ) (w v : Trace) (t : ℕ) → AgreeTo n w v → t < n → is_shared_at w t ≡ is_shared_at v t
unfolding is_shared_at
shared-same n w v t a l = grind (arith, line_at-agree)

live_claim-same : (n : ℕ) (w v : Trace) (j s : ℕ) → Reached n w v j s → live_claim_of w j ≡ live_claim_of v j
unfolding live_claim_of
live_claim-same n w v j s h =
    let c = snoop_end_of-clock w j s h.left in
    let q : ℕ = c.clock in
    let above = c.above in
    let less = h.below in
    let there = live_clock_of-stays n w v j q h.agree (omega arith) c.is_clock in
    ap (option_and_then (claim_at w)) c.is_clock ∙ claim_at-agree n w v q h.agree (omega arith)
    ∙ sym (ap (option_and_then (claim_at v)) there)

grant_for-same : (n : ℕ) (w v : Trace) (q t j s : ℕ) → t < n → Reached n w v j s → grant_for w q t j ≡ grant_for v q t j
unfolding grant_for
grant_for-same n w v q t j s l h =
    let request = request-same n w v j s h in
    let shared = shared-same n w v t h.agree l in
    let claim = live_claim-same n w v j s h in
    λ k. option_map (grant_to q (is_owner_request (request k)) (shared k)) (claim k)

reached-to : (n : ℕ) (w v : Trace) (i t j : ℕ) → Reached n w v i t → j ≤ i → (s : ℕ) × Reached n w v j s
reached-to n w v i t j h l =
    elim (cases_lt j i) [
      | inl less ↦ reached-before n w v i t j h less
      | inr more ↦ let same : i ≡ j = omega arith in (t, subst (λ k. Reached n w v k t) same h)
    ]

-- the grant for what is served
grant_by-same : (n : ℕ) (w v : Trace) (us : List ℕ) (i t q : ℕ) → Reached n w v i t → (o : Option ℕ)
    → served_number w us i ≡ o → option_and_then (grant_for w q t) o ≡ option_and_then (grant_for v q t) o
grant_by-same n w v us i t q h None e = refl
grant_by-same n w v us i t q h (Some j) e =
    let before = reached-to n w v i t j h (served-by w us i j (is_reply (live_request_of w i)) refl e) in
    grant_for-same n w v q t j before.0 h.below before.1

-- whether a grant is made rests on the samples up to its snoop end, and on the moments before it
gives_line-same : (n : ℕ) (p p' : Past) (w v : Trace) (t q : ℕ) (outcome : Outcome) → Alike t p p'
    → AgreeTo n w v → q + 3 < n → gives_line p w q t outcome ≡ gives_line p' v q t outcome
unfolding gives_line wins_race
gives_line-same n p p' w v t q outcome h a l = grind (arith, request_at-agree, claim_at-agree, holds_line-same)

-- a grant rests on the samples up to its snoop end, on the moments before it, and on the turns of the live requests
-- before
-- it
pub grant_of-same : (n : ℕ) (p p' : Past) (w v : Trace) (i t q : ℕ) (outcome : Outcome) → Alike t p p'
    → Reached n w v i t → live_clock_of w i ≡ Some q → live_clock_of v i ≡ Some q → q + 3 < n
    → ((j : ℕ) → j < i → slice_index (turns_in p.moments) j ≡ slice_index (turns_in p'.moments) j)
    → grant_of p w i q t outcome ≡ grant_of p' v i q t outcome
unfolding grant_of
grant_of-same n p p' w v i t q outcome alike h f g l turns =
    let us = turns_in p.moments in
    let made = gives_line-same n p p' w v t q outcome alike h.agree l in
    let served = served-same n w v us (turns_in p'.moments) i t q h f g l turns in
    let granted = grant_by-same n w v us i t q h (served_number w us i) refl
    ∙ ap (option_and_then (grant_for v q t)) served in
    λ k. elim (made k) [ true ↦ granted k | false ↦ None ]
