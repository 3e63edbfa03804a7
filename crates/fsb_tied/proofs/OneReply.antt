-- A reply answers one request alone: while a Deferred request awaits its reply no other one begins with its ID.
use Rattle.fsb_tied.proofs.Words
use Words.{ℕ, suc, ◌+◌, ◌-◌, ◌<◌, ◌≤◌, ◌≡◌, Bool, true, false, not, Option, Some, length, nat_lt, refl, sym, ap, subst}
use Words.{◌∙◌, arith, inl, inr, and_from, and_left, and_parts, and_right, both_ways, cases_Bool, eq-eqb}
use Words.{false_from_ne_true, lt-ltb, is_before, is_some_and, is_before-parts, nth_where-found, Kind, Request, Keep}
use Words.{is_never_held_up, ADS, HITM, line_at, winner_at, Trace, request_at, is_dropped, is_finished, is_outstanding}
use Words.{last_clock_of, reply_end_of, reply_number_of, is_deferral, is_deferred, outcome_by_kind, have_same_id}
use Words.{is_cancelled, is_live, is_reply, is_reply_kind, live_clock_of, live_number_of, live_request_of, end_of}
use Words.{is_id_taken_by, AgreeTo-sym, end_of-response, line_at-agree, live_clock_of-rises, live_clock_of-stays}
use Words.{live_request_of-at, request_at-agree, response_clock_of-stays, snoop_end_of-clock, snoop_end_of-stays}
use Words.{winner_at-agree, end_after_clock, last_clock_of-deferred, last_clock_of-plain, snooped_at, SnoopEnd, Run}
use Words.{past_of, past_to, run_to, request_begun, would_begin, Timely, outcome_by_turn, outcome_under, WantsLawfully}
use Words.{IsWanted, and-then, begun-winner, cuts-agree, id-free, length-cut, orderly-at, run_to-agrees}
use Words.{told-as-settled, turned-at, wanted-by}
use Rattle.fsb_lawful.proofs.Interface.{not-true}
use Rattle.fsb_tied.proofs.RepliesSeen.{HasReply, has-reply, reply-clock-stays}
use Rattle.fsb_tied.proofs.SnoopClaims.{IsShown, IsSnooped, asked-at, shown-at}
use Rattle.fsb_tied.proofs.SnoopOutcomes.{outcome-shown, turn-fits}

kept-plain : (handed : Bool) (request : Request) (kind : Kind) → request.kind ≡ kind
    → is_deferral (outcome_under handed Keep (Some request)) ≡ false
unfolding outcome_under outcome_by_turn outcome_by_kind is_deferral
kept-plain handed request kind h1 = grind arith

-- what is Deferred is no write-back and no reply
pub deferred-held : (r : Run) (t j : ℕ) (s : SnoopEnd) (request : Request) → Timely r → IsSnooped r t j s
    → request_at r.trace s.first ≡ Some request → is_deferral s.outcome ≡ true → is_never_held_up request.kind ≡ false
deferred-held r t j s request h k e deferred =
    let handed = line_at HITM r.trace t in
    false_from_ne_true (is_never_held_up request.kind) (λ never.
    let keep = (turn-fits r t j s request h k e).keeps never in
    let made = outcome-shown r t j s request k e ∙ ap (λ x. outcome_under handed x (Some request)) keep in
    both_ways (is_deferral s.outcome) (ap is_deferral made ∙ kept-plain handed request request.kind refl) deferred)

pub held-plain : (kind : Kind) → is_never_held_up kind ≡ false → is_reply_kind kind ≡ false
unfolding is_reply_kind
held-plain kind h1 = grind arith

clock-within : (w : Trace) (i q : ℕ) → live_clock_of w i ≡ Some q → q < length w
unfolding live_clock_of
clock-within w i q e = (nth_where-found (is_live w) i (length w) q e).0

clock-live : (w : Trace) (i q : ℕ) → live_clock_of w i ≡ Some q → (is_live w q ≡ true) × (live_number_of w q ≡ i)
unfolding live_clock_of live_number_of
clock-live w i q e = let h = nth_where-found (is_live w) i (length w) q e in (h.1, h.2)

-- a reply begins behind the snoop end of what it answers
pub reply-after : (r : Run) (t j i : ℕ) (s : SnoopEnd) → Timely r → IsSnooped r t j s → (k : HasReply r.trace j i)
    → t + 2 < k.clock
reply-after r t j i s h snooped k =
    let w = r.trace in
    let c = k.response in
    let after = k.after in
    let within = clock-within w i k.clock k.first in
    let agree = run_to-agrees r c (omega arith) in
    let there = response_clock_of-stays (c + 1) w (run_to r c).trace j c agree (omega arith) k.is_response in
    let told = told-as-settled r c j c h (omega arith) there in
    let before = told.before in
    let back = AgreeTo-sym (c + 1) w (run_to r c).trace agree in
    let snoop = snoop_end_of-stays (c + 1) (run_to r c).trace w j told.snoop back (omega arith) told.is_snoop in
    let here = snooped.tied.reached in
    let same : told.snoop ≡ t = cc in
    omega arith

-- a request that has responded is Deferred in the run so far, where it is settled so
pub told-deferred : (r : Run) (c t k p : ℕ) (s : SnoopEnd) → Timely r → c < length r.trace → IsSnooped r t k s
    → is_deferral s.outcome ≡ true → end_of (run_to r c).trace k ≡ Some p → is_deferred (run_to r c).trace k ≡ true
unfolding is_deferred is_some_and
told-deferred r c t k p s h l snooped deferred e =
    let w = r.trace in
    let v = (run_to r c).trace in
    let size = length-cut r c l in
    let response = end_of-response v k p e in
    let told = told-as-settled r c k response.0 h l response.1 in
    let within = (snoop_end_of-clock v k told.snoop told.is_snoop).within in
    let back = AgreeTo-sym (c + 1) w v (run_to-agrees r c l) in
    let whole = snoop_end_of-stays (c + 1) v w k told.snoop back (omega arith) told.is_snoop in
    let here = snooped.tied.reached in
    let same : told.snoop ≡ t = cc in
    let turned = turned-at r c k told.snoop h l told.is_snoop in
    let one = subst (λ x. snooped_at (past_of r) x ≡ Some turned.end) same turned.there in
    let two = snooped.tied.there in
    let end : turned.end ≡ s = cc in
    ap (λ o. is_some_and o is_deferral) (told.outcome ∙ turned.outcome) ∙ ap (λ x. is_deferral x.outcome) end ∙ deferred

-- while its reply has not begun a Deferred request is not finished
unfinished : (r : Run) (c n t k i : ℕ) (s : SnoopEnd) → Timely r → c < length r.trace → IsSnooped r t k s
    → is_deferral s.outcome ≡ true → s.first + 3 ≤ c → n ≤ c → (reply : HasReply r.trace k i) → n ≤ reply.clock
    → is_before (last_clock_of (run_to r c).trace k) n ≡ false
unfolding reply_end_of
unfinished r c n t k i s h l snooped deferred early low reply late =
    let w = r.trace in
    let v = (run_to r c).trace in
    let agree = run_to-agrees r c l in
    false_from_ne_true (is_before (last_clock_of v k) n) (λ before.
    let x = is_before-parts (last_clock_of v k) n before in
    let below = x.2 in
    elim (cases_Bool (is_deferred v k)) [
      | inl put_off ↦
          let y = and-then (end_of v) (reply_number_of v k) x.0 (sym (last_clock_of-deferred v k put_off) ∙ x.1) in
          let m = end_after_clock v y.0 x.0 (orderly-at r c h l) y.2 in
          let other = has-reply v k y.0 y.1 in
          let one = other.first in
          let two = m.1 in
          let begins : other.clock ≡ m.0 = cc in
          let ends : m.0 + 6 ≤ x.0 = m.2 in
          let clock = live_clock_of-stays (c + 1) w v k s.first agree (omega arith) snooped.tied.first in
          let whole = reply-clock-stays (c + 1) v w k s.first other.clock (AgreeTo-sym (c + 1) w v agree) clock
          (omega arith) (omega arith) other.is_clock in
          let here = reply.is_clock in
          let same : other.clock ≡ reply.clock = cc in
          omega arith
      | inr plain ↦
          let end : end_of v k ≡ Some x.0 = sym (last_clock_of-plain v k plain) ∙ x.1 in
          both_ways (is_deferred v k) plain (told-deferred r c t k x.0 s h l snooped deferred end)
    ])

-- and is outstanding
awaiting : (r : Run) (c n t k i : ℕ) (s : SnoopEnd) (request : Request) → Timely r → c < length r.trace
    → IsSnooped r t k s
    → is_deferral s.outcome ≡ true → request_at r.trace s.first ≡ Some request → s.first + 3 ≤ n → n ≤ c
    → (reply : HasReply r.trace k i) → n ≤ reply.clock → is_outstanding (run_to r c).trace n s.first ≡ true
unfolding is_outstanding is_dropped is_finished is_reply is_some_and is_live
awaiting r c n t k i s request h l snooped deferred decoded early low reply late =
    let w = r.trace in
    let v = (run_to r c).trace in
    let q = s.first in
    let agree = run_to-agrees r c l in
    let plain = held-plain request.kind (deferred-held r t k s request h snooped decoded deferred) in
    let clock = live_clock_of-stays (c + 1) w v k q agree (omega arith) snooped.tied.first in
    let live = clock-live v k q clock in
    let parts = and_parts (line_at ADS v q) (not (is_cancelled v q)) live.0 in
    let there = sym (request_at-agree (c + 1) w v q agree (omega arith)) ∙ decoded in
    let awaits = unfinished r c n t k i s h l snooped deferred (omega arith) low reply late in
    and_from _ _ (and_from _ _ (and_from _ _ (and_from _ _ parts.0 (lt-ltb q n (omega arith)))
    (ap not (ap (λ o. is_some_and o (λ x. is_reply_kind x.kind)) there ∙ plain)))
    (ap not (and_left (is_cancelled v q) (nat_lt (q + 3) n) (not-true (is_cancelled v q) parts.1))))
    (ap not (and_right (is_live v q) _ (ap (λ x. is_before (last_clock_of v x) n) live.1 ∙ awaits)))

ids-of : (o a b : Option Request) (x y : Request) → a ≡ Some x → b ≡ Some y → have_same_id o a ≡ true
    → have_same_id o b ≡ true → x.did ≡ y.did
unfolding have_same_id is_some_and
ids-of o a b x y h1 h2 h3 h4 = grind arith

same-ids : (a b : Option Request) (x y : Request) → a ≡ Some x → b ≡ Some y → x.did ≡ y.did → have_same_id a b ≡ true
unfolding have_same_id is_some_and
same-ids a b x y e f did = rw (e, f) (eq-eqb x.did y.did did)

-- the want with which a request begins at the clock after e
wanted : (r : Run) (e : ℕ) (shown : IsShown r (suc e)) → suc (suc e) < length r.trace
    → is_reply_kind shown.request.kind ≡ false → (a : ℕ) × IsWanted r e a shown.request
unfolding request_begun is_reply is_some_and
wanted r e shown l plain =
    let q = suc e in
    let c = suc (suc e) in
    let v = (run_to r c).trace in
    let p = past_to (past_of r) q in
    let who = begun-winner (would_begin (run_to r q) p q) (winner_at (run_to r q).trace q) shown.request shown.begun in
    let want = wanted-by r q who.0 shown.request who.2 plain in
    let winner = sym (winner_at-agree (q + 1) (run_to r q).trace v q (cuts-agree r q c (omega arith) l) (omega arith))
    ∙ who.1 ∙ ap Some want.1 in
    let decoded = sym (request_at-agree (c + 1) r.trace v q (run_to-agrees r c l) (omega arith)) ∙ shown.decoded in
    (want.0, record { decoded = decoded; winner = winner; want = want.2 })

-- no other request with its ID begins before the reply
not-again : (r : Run) (e t k i : ℕ) (s : SnoopEnd) (shown : IsShown r (suc e)) (request : Request) → Timely r
    → WantsLawfully r → r.plan.ahead ≤ 4 → suc (suc e) < length r.trace → line_at ADS r.trace (suc e) ≡ true
    → is_reply_kind shown.request.kind ≡ false → IsSnooped r t k s → is_deferral s.outcome ≡ true
    → request_at r.trace s.first ≡ Some request → s.first < suc e → (reply : HasReply r.trace k i) → suc e ≤ reply.clock
    → request.did ≡ shown.request.did → ⊥
unfolding is_id_taken_by
not-again r e t k i s shown request h wants few l ads plain snooped deferred decoded below reply late did =
    let c = suc (suc e) in
    let v = (run_to r c).trace in
    let agree = run_to-agrees r c l in
    let here = sym (line_at-agree ADS (c + 1) r.trace v (suc e) agree (omega arith)) ∙ ads in
    let first = sym (line_at-agree ADS (c + 1) r.trace v s.first agree (omega arith)) ∙ snooped.ads in
    let apart = (orderly-at r c h l).spaced.apart s.first (suc e) below first here in
    let want = wanted r e shown l plain in
    let there = sym (request_at-agree (c + 1) r.trace v s.first agree (omega arith)) ∙ decoded in
    let awaits = awaiting r c (suc e) t k i s request h l snooped deferred decoded apart (omega arith) reply late in
    let same = same-ids (request_at v s.first) (request_at v (suc e)) request shown.request there want.1.decoded did in
    id-free r e want.0 s.first shown.request h wants few l here want.1 below (and_from _ _ awaits same)

-- so two requests that are Deferred have two replies
pub two-replies : (r : Run) (t t' k j i : ℕ) (s' s : SnoopEnd) → Timely r → WantsLawfully r → r.plan.ahead ≤ 4
    → IsSnooped r t' k s' → is_deferral s'.outcome ≡ true → IsSnooped r t j s → is_deferral s.outcome ≡ true → k < j
    → reply_number_of r.trace k ≡ Some i → reply_number_of r.trace j ≡ Some i → ⊥
two-replies r t t' k j i s' s h wants few early put_off late deferred less one two =
    let w = r.trace in
    let rise = live_clock_of-rises w k j s'.first s.first less early.tied.first late.tied.first in
    let above = late.above in
    let within = late.within in
    let e : ℕ = s.first - 1 in
    let next : s.first ≡ suc e = omega arith in
    let first-of = asked-at r t' k s' h wants early in
    let shown = shown-at r (suc e) h wants (omega arith) (subst (λ x. line_at ADS w x ≡ true) next late.ads) in
    let decoded = subst (λ x. request_at w x ≡ Some shown.request) (sym next) shown.decoded in
    let plain = held-plain shown.request.kind (deferred-held r t j s shown.request h late decoded deferred) in
    let a = has-reply w k i one in
    let b = has-reply w j i two in
    let here = a.first in
    let there = b.first in
    let same : b.clock ≡ a.clock = cc in
    let after = reply-after r t j i s h late b in
    let asked-k = live_request_of-at w k s'.first first-of.request early.tied.first first-of.decoded in
    let asked-j = live_request_of-at w j s.first shown.request late.tied.first decoded in
    let again = subst (λ x. have_same_id (request_at w x) (live_request_of w j) ≡ true) same b.same_id in
    let did = ids-of (request_at w a.clock) (live_request_of w k) (live_request_of w j) first-of.request shown.request
    asked-k asked-j a.same_id again in
    not-again r e t' k i s' shown first-of.request h wants few (omega arith)
    (subst (λ x. line_at ADS w x ≡ true) next late.ads) plain early put_off first-of.decoded (omega arith) a
    (omega arith) did
