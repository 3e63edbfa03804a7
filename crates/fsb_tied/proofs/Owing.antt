-- A request that has begun, and is neither cancelled nor ended, is one that its agent owes.
use Rattle.fsb_tied.proofs.Words
use Words.{ℕ, zero, suc, ◌+◌, ◌<◌, ◌≤◌, ◌≡◌, Bool, true, false, ◌&&◌, List, [], ◌∷◌, Some, None, length, nat_eq, refl}
use Words.{sym, ap, subst, ◌∙◌, inl, inr, arith, filter, list_any, and_from, and_parts, both_ways, cases_Bool, cases_lt}
use Words.{eq-eqb, eqb-true, false_from_ne_true, is_at, is_some_and, any_where-at, is_at-from, is_before-parts, Request}
use Words.{ADS, AERR, line_at, OpenRequest, Trace, request_at, is_dropped, is_finished, is_outstanding, last_clock_of}
use Words.{outstanding, is_deferred, is_cancelled, is_live, is_reply, is_reply_kind, live_clock_of, live_number_of}
use Words.{line_at-agree, live_clock_of-number, request_at-agree, deferred_response, last_clock_of-plain}
use Words.{request_at-last, begun_at, is_ended, cancelled_at, moment_at, owing_at, Claim, Owing, Run, moments_below}
use Words.{past_of, past_with, run_to, Timely, is_asked_for, owed, cancelled-told, moment-at, moment_of, KeepsBounds}
use Words.{IsListed, any-from, any-kept, any-listed, length-cut, outstanding-of, owing-then, run_to-agrees}
use Words.{cancelled_in, IsOpen, is_cancelled_below}
use Rattle.fsb_tied.proofs.Beginnings.{IsBegunWant, begun-shown, begun-want}
use Rattle.fsb_tied.proofs.Ended.{end-below, ended-snooped, response-within}

-- the request that begins at q, as its agent knows it
begun-owing : (r : Run) (q : ℕ) (claim : Claim) → q < length r.trace → begun_at (past_of r) q ≡ Some claim
    → (owing : Owing) × ((moment_of r q).begun ≡ Some owing) × (owing.claim ≡ claim)
unfolding begun_at past_of
begun-owing r q claim l e = grind (arith, moment-at)

-- so the clock e knows it, where it began there or before
pub owing-gives : (r : Run) (e q : ℕ) → q < e + 1
    → owing_at (past_with r (moments_below r e) e) (run_to r e).trace e q ≡ (moment_of r q).begun
unfolding owing_at moment_at
owing-gives r e q l = grind (arith, owing-then)

-- a request that is outstanding behind the clock e is one that its agent owes there
pub listed-owed : (r : Run) (e q : ℕ) (claim : Claim) → e < length r.trace → q < e + 1
    → is_outstanding (run_to r e).trace (e + 1) q ≡ true → begun_at (past_of r) q ≡ Some claim
    → is_asked_for (owed (past_of r) claim.agent (suc e)) claim.line ≡ true
unfolding is_asked_for owed outstanding
listed-owed r e q claim l below out begun =
    let v = (run_to r e).trace in
    let give = owing_at (past_with r (moments_below r e) e) v e in
    let known = begun-owing r q claim (omega arith) begun in
    let t : ℕ → Bool = is_outstanding v (e + 1) in
    let f : Owing → Bool = λ owing. nat_eq owing.claim.agent claim.agent in
    let g : Owing → Bool = λ owing. nat_eq owing.claim.line claim.line in
    let same = known.2 in
    let listed : IsListed t give (λ owing. f owing && g owing) q = record {
      there = out;
      given = known.0;
      gives = owing-gives r e q below ∙ known.1;
      passes = and_from _ _ (eq-eqb known.0.claim.agent claim.agent (ap (λ x. x.agent) same))
          (eq-eqb known.0.claim.line claim.line (ap (λ x. x.line) same));
    } in
    let any = any-listed t give (λ owing. f owing && g owing) (e + 1) q below listed in
    ap (λ xs. list_any g (filter f xs)) (outstanding-of r e l) ∙ any-kept f g _ any

-- what passes among those that pass the first test passes both
any-both : {X : Type 0} (f g : X → Bool) (xs : List X) → list_any g (filter f xs) ≡ true
    → list_any (λ x. f x && g x) xs ≡ true
any-both f g [] e = absurd (let no : ⊥ = cc in no)
any-both f g (x ∷ xs) e = grind (arith, any-both f g xs)

-- what an agent owes has begun, and is outstanding
pub record IsOwed (r : Run) (a line e : ℕ) : Type 0 where
  pub clock : ℕ
  pub out : is_outstanding (run_to r e).trace (e + 1) clock ≡ true
  pub below : clock < e + 1
  pub claim : Claim
  pub begun : begun_at (past_of r) clock ≡ Some claim
  pub agent : claim.agent ≡ a
  pub names : claim.line ≡ line

outstanding-below : (w : Trace) (c q : ℕ) → is_outstanding w c q ≡ true → q < c
unfolding is_outstanding
outstanding-below w c q e = grind arith

owing-begun : (r : Run) (q : ℕ) (owing : Owing) → q < length r.trace → (moment_of r q).begun ≡ Some owing
    → begun_at (past_of r) q ≡ Some owing.claim
unfolding begun_at past_of
owing-begun r q owing l e = grind (arith, moment-at)

pub is-owed : (r : Run) (a line e : ℕ) → e < length r.trace → is_asked_for (owed (past_of r) a (suc e)) line ≡ true
    → IsOwed r a line e
unfolding is_asked_for owed outstanding
is-owed r a line e l asked =
    let v = (run_to r e).trace in
    let give = owing_at (past_with r (moments_below r e) e) v e in
    let f : Owing → Bool = λ owing. nat_eq owing.claim.agent a in
    let g : Owing → Bool = λ owing. nat_eq owing.claim.line line in
    let whole = sym (ap (λ xs. list_any g (filter f xs)) (outstanding-of r e l)) ∙ asked in
    let k = any-from (is_outstanding v (e + 1)) give (λ owing. f owing && g owing) (e + 1) (any-both f g _ whole) in
    let q : ℕ = k.0 in
    let below = outstanding-below v (e + 1) q k.1.there in
    let names = and_parts (f k.1.given) (g k.1.given) k.1.passes in
    record {
      clock = q;
      out = k.1.there;
      below = below;
      claim = k.1.given.claim;
      begun = owing-begun r q k.1.given (omega arith) (sym (owing-gives r e q below) ∙ k.1.gives);
      agent = eqb-true k.1.given.claim.agent a names.0;
      names = eqb-true k.1.given.claim.line line names.1;
    }

-- AERR# three clocks behind a first clock cancels the request
pub cancelled-at : (r : Run) (q : ℕ) → q + 3 < length r.trace → line_at ADS r.trace q ≡ true
    → line_at AERR r.trace (q + 3) ≡ true → cancelled_in (past_of r) (q + 3) ≡ Some q
unfolding cancelled_in cancelled_at
cancelled-at r q l t e = grind (arith, cancelled-told)

pub cancelled-below : (r : Run) (n q : ℕ) → q + 3 < n → n ≤ length r.trace → line_at ADS r.trace q ≡ true
    → line_at AERR r.trace (q + 3) ≡ true → is_cancelled_below (past_of r) n q ≡ true
unfolding is_cancelled_below
cancelled-below r n q l m t e =
    any_where-at (λ c. is_at (cancelled_in (past_of r) c) q) n (q + 3) l
    (is_at-from (cancelled_in (past_of r) (q + 3)) q (cancelled-at r q (omega arith) t e))

-- what is known of a request that is neither cancelled nor ended, nor shown as a reply, in the run up to e
pub record IsLeft (r : Run) (e q : ℕ) : Type 0 where
  pub asks : line_at ADS r.trace q ≡ true
  pub below : q < e + 1
  pub no_reply : is_reply (request_at (run_to r e).trace q) ≡ false
  pub uncancelled : line_at AERR r.trace (q + 3) ≡ true → q + 3 < e + 1 → ⊥
  pub unfinished : (i x : ℕ) → is_live (run_to r e).trace q ≡ true → live_number_of (run_to r e).trace q ≡ i
      → last_clock_of (run_to r e).trace i ≡ Some x → x < e + 1 → ⊥

-- it is outstanding
pub left-outstanding : (r : Run) (e q : ℕ) → e < length r.trace → IsLeft r e q
    → is_outstanding (run_to r e).trace (e + 1) q ≡ true
unfolding is_outstanding is_dropped is_finished is_cancelled
left-outstanding r e q l k = grind (arith, run_to-agrees, line_at-agree, is_before-parts)

reply-some : (request : Request) → is_reply (Some request) ≡ is_reply_kind request.kind
unfolding is_reply is_some_and
reply-some request = refl

reply-none : is_reply None ≡ false
unfolding is_reply is_some_and
reply-none = refl

-- a request of a symmetric agent is no reply
pub claim-no-reply : (r : Run) (e q : ℕ) (claim : Claim) → Timely r → KeepsBounds r.plan → e < length r.trace
    → q < e + 1 → IsBegunWant r q claim → is_reply (request_at (run_to r e).trace q) ≡ false
claim-no-reply r e q claim h bounds l below k =
    let u = (run_to r e).trace in
    elim (cases_lt q e) [
      | inl early ↦
          let shown = begun-shown r q claim h bounds (omega arith) k in
          let there = sym (request_at-agree (e + 1) r.trace u q (run_to-agrees r e l) (omega arith)) ∙ shown in
          ap is_reply there ∙ reply-some k.request ∙ k.no_reply
      | inr late ↦
          let size = length-cut r e l in
          ap is_reply (request_at-last u q (omega arith)) ∙ reply-none
    ]

-- a request that is neither cancelled nor ended is owed
pub own-owed : (r : Run) (n q : ℕ) (claim : Claim) → Timely r → KeepsBounds r.plan → n ≤ length r.trace → q < n
    → begun_at (past_of r) q ≡ Some claim → is_cancelled_below (past_of r) n q ≡ false
    → is_ended (past_of r) n q ≡ false → is_asked_for (owed (past_of r) claim.agent n) claim.line ≡ true
own-owed r zero q claim h bounds l below begun uncancelled unended = absurd (omega arith)
own-owed r (suc e) q claim h bounds l below begun uncancelled unended =
    let u = (run_to r e).trace in
    let size = length-cut r e (omega arith) in
    let k = begun-want r q claim h bounds (omega arith) begun in
    let unfinished : (i x : ℕ) → is_live u q ≡ true → live_number_of u q ≡ i → last_clock_of u i ≡ Some x
    → x < e + 1 → ⊥ =
    λ i x live number last low.
    let clock = subst (λ j. live_clock_of u j ≡ Some q) number (live_clock_of-number u q (omega arith) live) in
    elim (cases_Bool (is_deferred u i)) [
      | inl put_off ↦
          let p = deferred_response u i put_off in
          let within = response-within u i p.0 p.1 in
          both_ways (is_ended (past_of r) (suc e) q) unended
          (end-below r e i p.0 q h (omega arith) p.2 (omega arith) clock)
      | inr plain ↦
          both_ways (is_ended (past_of r) (suc e) q) unended
          (end-below r e i x q h (omega arith) (sym (last_clock_of-plain u i plain) ∙ last) low clock)
    ] in
    let out = left-outstanding r e q (omega arith) (record {
      asks = k.ads;
      below = omega arith;
      no_reply = claim-no-reply r e q claim h bounds (omega arith) (omega arith) k;
      uncancelled = λ t low.
          both_ways (is_cancelled_below (past_of r) (suc e) q) uncancelled
          (cancelled-below r (suc e) q (omega arith) l k.ads t);
      unfinished = unfinished;
    }) in
    listed-owed r e q claim (omega arith) (omega arith) out begun

-- an open request is owed
pub open-owed : (r : Run) (a line n : ℕ) (request : OpenRequest) → Timely r → KeepsBounds r.plan → n ≤ length r.trace
    → IsOpen (past_of r) a line n request → is_asked_for (owed (past_of r) a n) line ≡ true
open-owed r a line n request h bounds l k =
    let unended : is_ended (past_of r) n request.number ≡ false = false_from_ne_true _ (λ t.
    both_ways _ k.unsnooped (ended-snooped r n request.number h l t)) in
    own-owed r n request.number (record { first = request.number; agent = a; line = line }) h bounds l
    k.before k.begun k.uncancelled unended
