-- The replies of a timely run are what the priority agent begins.
use Rattle.fsb_bridge_run.proofs.Words
use Words.{ℕ, suc, ◌+◌, ◌≡◌, true, false, ◌&&◌, Option, Some, None, if◌then◌else◌, refl, sym, ap, subst, ◌∙◌, arith}
use Words.{and_parts, is_some_and, Request, ADS, line_at, request_at, is_reply, begins_at, is_agent, is_same_agent}
use Words.{winner_at, Who, Priority, line_at-agree, request_at-agree, winner_at-agree, Run, past_of, past_to, run_to}
use Words.{request_begun, would_begin, begun-decoded, begun-winner, reply-before, reply-is, run_to-agrees}
use Words.{wants-lawfully, Reaches, reply_at, reply_begun}
use Rattle.fsb_bridge_run.proofs.RepliesAt.{reply_at-from, reply_at-off}

agent-is : (who : Who) → is_agent (Some who) Priority ≡ true → who ≡ Priority
unfolding is_agent is_some_and is_same_agent
agent-is who h1 = grind arith

-- where the priority agent begins a request, it is what the agent would begin
pub begun-priority : (r : Run) (n : ℕ) → Reaches r (n + 2) → begins_at r.trace n Priority ≡ true
    → request_at r.trace n ≡ would_begin (run_to r n) (past_to (past_of r) n) n Priority
unfolding begins_at request_begun
begun-priority r n h e =
    let w = r.trace in
    let long = h.long in
    let agree = run_to-agrees r n (omega arith) in
    let parts = and_parts (line_at ADS w n) (is_agent (winner_at w n) Priority) e in
    let here = sym (line_at-agree ADS (n + 1) w (run_to r n).trace n agree (omega arith)) ∙ parts.0 in
    let b = begun-decoded r n h.timely (omega arith) here in
    let next = run_to-agrees r (suc n) (omega arith) in
    let decoded = request_at-agree (suc n + 1) w (run_to r (suc n)).trace n next (omega arith)
    ∙ b.2 ((wants-lawfully r h.bounds).lawful n b.0 b.1) in
    let who = begun-winner (would_begin (run_to r n) (past_to (past_of r) n) n) (winner_at (run_to r n).trace n)
    b.0 b.1 in
    let winner = winner_at-agree (n + 1) w (run_to r n).trace n agree (omega arith) ∙ who.1 in
    let is = agent-is who.0 (sym (ap (λ o. is_agent o Priority) winner) ∙ parts.1) in
    decoded ∙ sym (subst (λ x. would_begin (run_to r n) (past_to (past_of r) n) n x ≡ Some b.0) is who.2)

-- a reply begins in the whole trace exactly where the priority agent begins a request
pub reply-priority : (r : Run) (n : ℕ) → Reaches r (n + 2)
    → (line_at ADS r.trace n && is_reply (request_at r.trace n)) ≡ begins_at r.trace n Priority
unfolding begins_at
reply-priority r n h =
    let w = r.trace in
    let v = run_to r (suc n) in
    let long = h.long in
    let agree = run_to-agrees r (suc n) (omega arith) in
    let ads = line_at-agree ADS (suc n + 1) w v.trace n agree (omega arith) in
    let request = request_at-agree (suc n + 1) w v.trace n agree (omega arith) in
    let winner = winner_at-agree (suc n + 1) w v.trace n agree (omega arith) in
    (λ i. ads i && is_reply (request i)) ∙ sym (reply-before v n)
    ∙ reply-is r n h.timely (wants-lawfully r h.bounds) h.bounds.few_ahead (omega arith)
    ∙ sym (λ i. ads i && is_agent (winner i) Priority)

pub begun-off : (r : Run) (n : ℕ) → begins_at (run_to r n).trace n Priority ≡ false → reply_begun r n ≡ None
unfolding reply_begun
begun-off r n e = rw (reply_begun, e) refl

pub begun-on : (r : Run) (n : ℕ) → begins_at (run_to r n).trace n Priority ≡ true
    → reply_begun r n ≡ would_begin (run_to r n) (past_to (past_of r) n) n Priority
unfolding reply_begun
begun-on r n e = rw (reply_begun, e) refl

-- where a reply begins, the priority agent begins what it would begin
pub begun-parts : (r : Run) (n : ℕ) (x : Request) → reply_begun r n ≡ Some x
    → would_begin (run_to r n) (past_to (past_of r) n) n Priority ≡ Some x
begun-parts r n x e = grind (arith, begun-on, begun-off)

-- a reply begins as its two clocks show it, once both are there
pub reply-shown : (r : Run) (n : ℕ) → Reaches r (n + 2) → reply_at r.trace n ≡ reply_begun r n
unfolding begins_at
reply-shown r n h =
    grind (
      arith,
      reply-priority,
      run_to-agrees,
      line_at-agree,
      winner_at-agree,
      reply_at-from,
      begun-priority,
      begun-on,
      reply_at-off,
      begun-off,
    )

-- and it is the priority agent's request
pub reply-request : (r : Run) (n : ℕ) → Reaches r (n + 2)
    → reply_at r.trace n ≡ (if begins_at r.trace n Priority then request_at r.trace n else None)
reply-request r n h = grind (arith, reply-priority, reply_at-from, reply_at-off)

pub begun-if : (r : Run) (n : ℕ) (o : Option Request)
    → would_begin (run_to r n) (past_to (past_of r) n) n Priority ≡ o
    → reply_begun r n ≡ (if begins_at (run_to r n).trace n Priority then o else None)
begun-if r n o e = grind (arith, begun-on, begun-off)
