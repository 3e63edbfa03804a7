-- The outstanding requests of symmetric agents, as the whole trace has them, and one clock further.
use Rattle.fsb_run_laws.proofs.Words
use Words.{ℕ, ◌+◌, ◌<◌, ◌≡◌, Bool, true, false, not, ◌&&◌, ◌++◌, Option, Some, length, nat_lt, refl, sym, ap, ◌∙◌, inl}
use Words.{inr, arith, filter, filter_map, option_and_then, option_map, cases_lt, false_from_ne_true, le-ltb, lt-ltb}
use Words.{all_where, is_some_and, ADS, AgreeTo, Trace, request_at, is_dropped, is_finished, is_outstanding}
use Words.{outstanding, is_cancelled, is_reply, AgreeTo-sym, line_at-agree, request_at-last, begun_at, is_last_clock}
use Words.{Claim, Owing, Past, past_of, Run, run_to, outstanding_at, is_outstanding-more, moment-at, moment_of}
use Words.{length-cut, orderly-at, outstanding-of, run_to-agrees, begun-shown, begun-want, claim-no-reply, clock-facts}
use Words.{orderly-whole, owing-gives, same-both, Reaches, listed, owing_begun}
use Rattle.fsb_run_laws.proofs.LastClocks.{finished-carried, finished-late}
use Rattle.fsb_run_laws.proofs.Lists.{given, given-alike, given-more, kept, kept-alike}

-- the claim of the request that begins at q, as its agent knows it
pub owing-claim : (p : Past) (q : ℕ) (owing : Owing) → owing_begun p q ≡ Some owing → begun_at p q ≡ Some owing.claim
unfolding begun_at owing_begun
owing-claim p q owing e = ap (option_map (λ owing. owing.claim)) e

dropped-agree : (n : ℕ) (a b : Trace) (q : ℕ) → AgreeTo n a b → is_dropped a n q ≡ is_dropped b n q
unfolding is_dropped is_cancelled
dropped-agree n a b q agree = grind (arith, line_at-agree)

-- a request of a symmetric agent is no reply, in the whole trace
pub no-reply : (r : Run) (q : ℕ) (claim : Claim) (n : ℕ) → Reaches r n → q < n → begun_at (past_of r) q ≡ Some claim
    → is_reply (request_at r.trace q) ≡ false
unfolding is_reply is_some_and
no-reply r q claim n h below begun =
    let long = h.long in
    let k = begun-want r q claim h.timely h.bounds (omega arith) begun in
    elim (cases_lt (q + 1) (length r.trace)) [
      | inl early ↦ ap is_reply (begun-shown r q claim h.timely h.bounds (omega arith) k) ∙ k.no_reply
      | inr late ↦ ap is_reply (request_at-last r.trace q late)
    ]

-- it is outstanding in the samples up to e where it is in the whole trace
out-same : (r : Run) (e q : ℕ) (claim : Claim) → Reaches r (e + 1) → q < e + 1 → begun_at (past_of r) q ≡ Some claim
    → is_outstanding (run_to r e).trace (e + 1) q ≡ is_outstanding r.trace (e + 1) q
unfolding is_outstanding
out-same r e q claim h below begun =
    let long = h.long in
    let l : e < length r.trace = omega arith in
    let w = r.trace in
    let u = (run_to r e).trace in
    let agree = run_to-agrees r e l in
    let back = AgreeTo-sym (e + 1) w u agree in
    let size = length-cut r e l in
    let k = begun-want r q claim h.timely h.bounds (omega arith) begun in
    let ads = line_at-agree ADS (e + 1) u w q back below in
    let reply : is_reply (request_at u q) ≡ is_reply (request_at w q) =
    claim-no-reply r e q claim h.timely h.bounds l below k ∙ sym (no-reply r q claim (e + 1) h below begun) in
    let dropped = dropped-agree (e + 1) u w q back in
    let finished = same-both (is_finished u (e + 1) q) (is_finished w (e + 1) q)
    (finished-carried (e + 1) u w q back (orderly-at r e h.timely l) (omega arith))
    (finished-carried (e + 1) w u q agree (orderly-whole r e h.timely l) (omega arith)) in
    λ i. ads i && nat_lt q (e + 1) && not (reply i) && not (dropped i) && not (finished i)

pub begun-field : (r : Run) (q : ℕ) → q < length r.trace → (moment_of r q).begun ≡ owing_begun (past_of r) q
unfolding owing_begun past_of
begun-field r q l = sym (ap (option_and_then (λ moment. moment.begun)) (moment-at r (length r.trace) q l))

-- the outstanding requests of symmetric agents, as the whole trace has them
pub owed-told : (r : Run) (n : ℕ) → Reaches r n
    → outstanding_at (past_of r) n ≡ filter_map (owing_begun (past_of r)) (outstanding r.trace n)
unfolding outstanding outstanding_at all_where
owed-told r n h1 = grind (arith, outstanding-of, given-alike, owing-gives, begun-field, out-same, owing-claim)

-- a request that begins at n is outstanding one clock on
out-begun : (r : Run) (n : ℕ) (claim : Claim) → Reaches r (n + 1) → begun_at (past_of r) n ≡ Some claim
    → is_outstanding r.trace (n + 1) n ≡ true
unfolding is_outstanding is_dropped
out-begun r n claim h begun =
    let long = h.long in
    let w = r.trace in
    let k = begun-want r n claim h.timely h.bounds (omega arith) begun in
    let reply = no-reply r n claim (n + 1) h (omega arith) begun in
    let agree : AgreeTo (n + 1) w w = record { left = long; right = long; same = λ c l. refl } in
    let unfinished : is_finished w (n + 1) n ≡ false = false_from_ne_true _ (λ t.
    let late = finished-late w (n + 1) n agree (orderly-whole r n h.timely (omega arith)) (omega arith) t in
    omega arith) in
    rw (k.ads, lt-ltb n (n + 1) (omega arith), reply, le-ltb (n + 3) (n + 1) (omega arith), unfinished)
    (nothing (is_cancelled w n))
  where
    nothing : (b : Bool) → (not (b && false) && true) ≡ true
    nothing b = grind arith

kept-by : (f : Owing → Bool) (b c : Bool) (o : Option Owing) → ((owing : Owing) → o ≡ Some owing → f owing ≡ c)
    → kept f (given b o) ≡ given (b && c) o
kept-by f b c o h1 = grind arith

given-begun : (b : Bool) (o : Option Owing) → ((owing : Owing) → o ≡ Some owing → b ≡ true) → given b o ≡ o
given-begun b o h1 = grind arith

-- the outstanding requests, one clock further
pub owed-step : (r : Run) (n : ℕ) → Reaches r (n + 1) → outstanding_at (past_of r) (n + 1)
    ≡ filter (λ owing. not (is_last_clock r.trace n owing.claim.first)) (outstanding_at (past_of r) n)
    ++ listed (owing_begun (past_of r) n)
unfolding outstanding
owed-step r n h =
    let p = past_of r in
    let w = r.trace in
    let long = h.long in
    let here : ℕ → Bool = λ q. not (is_last_clock w n q) in
    let first : (q : ℕ) (owing : Owing) → q < n → owing_begun p q ≡ Some owing → owing.claim.first ≡ q =
    λ q owing l e.
    (clock-facts r 0 q h.timely h.bounds (omega arith)).begins.first owing.claim (owing-claim p q owing e) in
    let before = sym (kept-alike (λ (owing : Owing). here owing.claim.first) (is_outstanding w n)
    (is_outstanding w (n + 1)) (owing_begun p) (owing_begun p) n
    (λ q l. kept-by (λ owing. here owing.claim.first) (is_outstanding w n q) (here q) (owing_begun p q)
    (λ owing e. ap here (first q owing l e))
    ∙ ap (λ b. given b (owing_begun p q)) (sym (is_outstanding-more w n q l)))) in
    let fresh = given-begun (is_outstanding w (n + 1) n) (owing_begun p n)
    (λ owing e. out-begun r n owing.claim h (owing-claim p n owing e)) in
    grind (arith, owed-told, given-more)
