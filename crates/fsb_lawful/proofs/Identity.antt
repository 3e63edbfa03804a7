-- Rule 7: a request is identified by its winner.
use Rattle.fsb_lawful.proofs.Words
use Words.{ℕ, zero, suc, ◌+◌, ◌/◌, ◌<◌, ◌≤◌, ◌≡◌, true, false, Option, Some, length, take, refl, sym, ap, ◌∙◌, arith}
use Words.{option_map, option_and_then, eq-eqb, is_some_and, Request, ADS, Marks, Who, Symmetric, Priority, Trace}
use Words.{line_back, request_at, is_reply, is_reply_kind, live_request_of, winner_at, is_agent, is_same_agent}
use Words.{is_own_id, is_identified, is_identity_wrong, breaks-7, winner_at-agree, Past, Run, run_to, past_of, past_to}
use Words.{reply_to, due_number, would_begin, request_begun, Timely, WantsLawfully, Keeps}
use Rattle.fsb_lawful.proofs.Cuts.{run_to-agrees}
use Rattle.fsb_lawful.proofs.Begun.{ads-back, begun-decoded}
use Rattle.fsb_lawful.proofs.OwnIds.{want-own}
use Rattle.fsb_lawful.proofs.Keeping.{keeps}

-- the request of a winner
pub begun-winner : (f : Who → Option Request) (o : Option Who) (q : Request) → option_and_then f o ≡ Some q
    → (who : Who) × (o ≡ Some who) × (f who ≡ Some q)
begun-winner f o q h1 = grind arith

own : (a : ℕ) (q : Request) → is_reply_kind q.kind ≡ false → q.did / 16 ≡ a
    → is_identified (Some (Symmetric a)) (Some q) ≡ true
unfolding is_identified is_reply is_some_and is_own_id is_same_agent
own a q e f = rw e (eq-eqb (q.did / 16) a f)

reply-identified : (o : Option Request) (q : Request) → option_map reply_to o ≡ Some q
    → is_identified (Some Priority) (Some q) ≡ true
unfolding is_identified is_reply is_reply_kind is_some_and is_agent is_same_agent reply_to
reply-identified o q h1 = grind arith

identified-by : (r : Run) (p : Past) (c : ℕ) (who : Who) (q : Request) → p.plan.ahead ≤ 4
    → would_begin r p c who ≡ Some q → is_identified (Some who) (Some q) ≡ true
unfolding would_begin
identified-by r p c (Symmetric a) q few e = let h = want-own p a c q few e in own a q h.0 h.1
identified-by r p c Priority q few e =
    reply-identified (option_and_then (live_request_of r.trace) (due_number r p c)) q e

-- the request that begins is identified by the winner of its first clock
begun-identified : (r : Run) (p : Past) (c : ℕ) (q : Request) → p.plan.ahead ≤ 4 → request_begun r p c ≡ Some q
    → is_identified (winner_at r.trace c) (Some q) ≡ true
unfolding request_begun
begun-identified r p c q few e = grind (arith, identified-by)

same-winner : (r : Run) (d : ℕ) → suc d < length r.trace
    → winner_at (run_to r d).trace d ≡ winner_at (run_to r (suc d)).trace d
same-winner r d l = grind (arith, run_to-agrees, winner_at-agree)

-- a request is identified in its second clock
pub identified-at : (r : Run) (d : ℕ) → Timely r → r.plan.ahead ≤ 4 → WantsLawfully r → suc d < length r.trace
    → line_back ADS (run_to r (suc d)).trace (suc d) 1 ≡ true
    → is_identified (winner_at (run_to r (suc d)).trace d) (request_at (run_to r (suc d)).trace d) ≡ true
unfolding past_to past_of
identified-at r d h few wants l t =
    let begun = begun-decoded r d h l (ads-back r d l ∙ t) in
    let decoded = begun.2 (wants.lawful d begun.0 begun.1) in
    ap (is_identified (winner_at (run_to r (suc d)).trace d)) decoded
    ∙ ap (λ o. is_identified o (Some begun.0)) (sym (same-winner r d l))
    ∙ begun-identified (run_to r d) (past_to (past_of r) d) d begun.0 few begun.1

none-back : (v : Trace) → line_back ADS v zero 1 ≡ false
unfolding line_back
none-back v = refl

at-clock : (r : Run) (c : ℕ) → Timely r → r.plan.ahead ≤ 4 → WantsLawfully r → c < length r.trace
    → is_identity_wrong (run_to r c).trace c ≡ false
unfolding is_identity_wrong
at-clock r zero h few wants l = grind (arith, none-back)
at-clock r (suc d) h few wants l = grind (arith, identified-at)

-- rule 7
pub keeps-7 : (m : Marks) (r : Run) → Timely r → r.plan.ahead ≤ 4 → WantsLawfully r → Keeps m 7 r.trace
unfolding run_to
keeps-7 m r h few wants = keeps m 7 r.trace (λ c l. breaks-7 m (take (c + 1) r.trace) c ∙ at-clock r c h few wants l)
