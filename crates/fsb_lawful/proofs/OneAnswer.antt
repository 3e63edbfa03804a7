-- In a timely run the request that responds is the next one, and so is the one whose target is ready.
use Rattle.fsb_lawful.proofs.Words
use Words.{ℕ, zero, suc, ◌+◌, ◌<◌, ◌≤◌, ◌≡◌, true, Option, Some, length, refl, sym, ap, ◌∙◌, arith, inl, inr, subst}
use Words.{cases_lt, any_where, any_where-found, count_where-mono, count_where-same, first_where-found, TRDY, DRDY}
use Words.{DBSY, line_at, responds_at, response_code_at, live_count, ready_clock_of, next_response, responds_at-agree}
use Words.{line_at-agree, after_answer, answer_later, has_ready, Past, Run, run_to, past_of, live_choice, holds_in}
use Words.{holds_at, Timely, is_ready_due, is_response_clock, number_responding, code_due, has_data_at, is_busy_at}
use Words.{drives_ready, drives_code, drives_data_ready, drives_data_busy, drives_responses}
use Rattle.fsb_lawful.proofs.AnswerClocks.{answered-before, response-before}
use Rattle.fsb_lawful.proofs.CutRuns.{cuts-agree, length-cut, past-cut}
use Rattle.fsb_lawful.proofs.Responding.{Responding, IsReadyDue, responding-answer, responding-stays, one-response}
use Rattle.fsb_lawful.proofs.Responding.{responding-now, ready-answer, ready-stays, one-ready, ready-now}

-- what a clock has of responses and data
pub record Transfers (v : Run) (p : Past) (c : ℕ) : Type 0 where
  pub ready : line_at TRDY v.trace c ≡ any_where (is_ready_due v c) (live_count v.trace)
  pub code : response_code_at v.trace c ≡ code_due v p c
  pub data_ready : line_at DRDY v.trace c ≡ any_where (has_data_at v p c) (live_count v.trace)
  pub data_busy : line_at DBSY v.trace c ≡ any_where (is_busy_at v p c) (live_count v.trace)

transfers_by : (v : Run) (p : Past) (c : ℕ) → drives_responses v p c ≡ true → Transfers v p c
unfolding drives_responses drives_ready drives_code drives_data_ready drives_data_busy
transfers_by v p c e = grind arith

pub transfers-at : (r : Run) (c : ℕ) → Timely r → c < length r.trace
    → Transfers (run_to r c) (past_of (run_to r c)) c
unfolding holds_at holds_in
transfers-at r c h l =
    subst (λ p. Transfers (run_to r c) p c) (sym (past-cut r c l))
    (transfers_by (run_to r c) _ c (h.responses_and_data.at c l))

number_by : (v : Run) (p : Past) (c : ℕ) (o : Option ℕ) → response_code_at v.trace c ≡ code_due v p c
    → number_responding v c ≡ o → responds_at v.trace c ≡ true → (i : ℕ) × (number_responding v c ≡ Some i)
unfolding code_due responds_at
number_by v p c o h1 h2 h3 = grind arith

-- where a clock has a response, that of a live request is due there
pub responder : (r : Run) (c : ℕ) → Timely r → c < length r.trace → responds_at (run_to r c).trace c ≡ true
    → (i : ℕ) × (number_responding (run_to r c) c ≡ Some i) × (i < live_count (run_to r c).trace)
    × (is_response_clock (run_to r c) c i ≡ true)
unfolding number_responding
responder r c h l t =
    let v = run_to r c in
    let n = number_by v (past_of v) c (number_responding v c) (transfers-at r c h l).code refl t in
    let f = first_where-found (is_response_clock v c) (live_count v.trace) n.0 n.1 in (n.0, n.1, f.0, f.1)

-- the next response at an earlier clock
pub next-same : (r : Run) (t c : ℕ) → t ≤ c → c < length r.trace
    → next_response (run_to r t).trace t ≡ next_response (run_to r c).trace t
unfolding next_response
next-same r t c l m = grind (arith, cuts-agree, count_where-same, responds_at-agree)

-- at a clock one request is answered alone: the next one to respond
pub record OneAnswer (r : Run) (c : ℕ) : Type 0 where
  pub responds : (i : ℕ) → is_response_clock (run_to r c) c i ≡ true → i ≡ next_response (run_to r c).trace c
  pub ready : (i : ℕ) → is_ready_due (run_to r c) c i ≡ true → i ≡ next_response (run_to r c).trace c

-- a request before the next one had its response when it was due
responded-then : (r : Run) (c i : ℕ) → Timely r → c < length r.trace → ((t : ℕ) → t < c → OneAnswer r t)
    → i < next_response (run_to r c).trace c
    → (t : ℕ) × (t < c) × (next_response (run_to r c).trace t ≡ i)
    × Responding (run_to r c).trace (live_choice r i).resp t i
responded-then r c i h l before less =
    let v = (run_to r c).trace in
    let size = length-cut r c l in
    let p = response-before v c i (omega arith) less in
    let t : ℕ = p.0 in
    let below : t < c = p.1 in
    let a = cuts-agree r t c (omega arith) l in
    let there = responds_at-agree (t + 1) (run_to r t).trace v t a (omega arith) ∙ p.3 in
    let d = responder r t h (omega arith) there in
    let number : d.0 ≡ i = (before t below).responds d.0 d.3 ∙ next-same r t c (omega arith) l ∙ p.4 in
    let then = responding-now r t i (omega arith) (subst (λ k. is_response_clock (run_to r t) t k ≡ true) number d.3) in
    (t, below, p.4, responding-stays (t + 1) (run_to r t).trace v (live_choice r i).resp t i a (omega arith) then)

-- TRDY# before a request had responded was its own, when it was due
pub ready-then : (r : Run) (c i y : ℕ) → Timely r → c < length r.trace → ((t : ℕ) → t < c → OneAnswer r t)
    → ready_clock_of (run_to r c).trace i ≡ Some y → y < c → next_response (run_to r c).trace y ≤ i
    → IsReadyDue (run_to r c).trace (live_choice r i).trdy y i
ready-then r c i y h l before e below few =
    let v = (run_to r c).trace in
    let k = has_ready v i y e in
    let above = k.above in
    let a = cuts-agree r y c (omega arith) l in
    let place = answered-before v y i
    (answer_later v (k.after + 1) y i (omega arith) (after_answer v i k.after k.is_after)) in
    let line = line_at-agree TRDY (y + 1) (run_to r y).trace v y a (omega arith) ∙ k.ready in
    let any = any_where-found (is_ready_due (run_to r y) y) (live_count (run_to r y).trace)
    (sym (transfers-at r y h (omega arith)).ready ∙ line) in
    let number : any.0 ≡ next_response v y = (before y below).ready any.0 any.2 ∙ next-same r y c (omega arith) l in
    let same : any.0 ≡ i = omega arith in
    let then = ready-now r y i (omega arith) (subst (λ k. is_ready_due (run_to r y) y k ≡ true) same any.2) in
    ready-stays (y + 1) (run_to r y).trace v (live_choice r i).trdy y i a (omega arith) then

response_is : (r : Run) (c i : ℕ) → Timely r → c < length r.trace → ((t : ℕ) → t < c → OneAnswer r t)
    → is_response_clock (run_to r c) c i ≡ true → i ≡ next_response (run_to r c).trace c
response_is r c i h l before e =
    let v = (run_to r c).trace in
    let now = responding-now r c i l e in
    let place = answered-before v c i (responding-answer v (live_choice r i).resp c i now) in
    elim (cases_lt i (next_response v c)) [
      | inl less ↦
          let p = responded-then r c i h l before less in
          let below = p.1 in
          let same = one-response v (live_choice r i).resp p.0 c i p.3 now in absurd (omega arith)
      | inr more ↦ omega arith
    ]

-- a target that is ready is not that of a request that responded before
ready_once : (r : Run) (c t i : ℕ) → Timely r → c < length r.trace → ((t : ℕ) → t < c → OneAnswer r t)
    → IsReadyDue (run_to r c).trace (live_choice r i).trdy c i
    → t < c → next_response (run_to r c).trace t ≡ i → Responding (run_to r c).trace (live_choice r i).resp t i → ⊥
unfolding next_response
ready_once r c t i h l before now below e (inl k) =
    let v = (run_to r c).trace in
    let waits = k.waits in
    let fewer = count_where-mono (responds_at v) k.ready t (omega arith) in
    let then = ready-then r c i k.ready h l before k.is_ready (omega arith) (omega arith) in
    let same = one-ready v (live_choice r i).trdy k.ready c i then now in omega arith
ready_once r c t i h l before now below e (inr k) = grind arith

ready_is : (r : Run) (c i : ℕ) → Timely r → c < length r.trace → ((t : ℕ) → t < c → OneAnswer r t)
    → is_ready_due (run_to r c) c i ≡ true → i ≡ next_response (run_to r c).trace c
ready_is r c i h l before e =
    let v = (run_to r c).trace in
    let now = ready-now r c i l e in
    let place = answered-before v c i (ready-answer v (live_choice r i).trdy c i now) in
    elim (cases_lt i (next_response v c)) [
      | inl less ↦
          let p = responded-then r c i h l before less in
          absurd (ready_once r c p.0 i h l before now p.1 p.2 p.3)
      | inr more ↦ omega arith
    ]

below : (r : Run) (n c : ℕ) → Timely r → c < n → c < length r.trace → OneAnswer r c
below r zero c h l m = absurd (omega arith)
below r (suc n) c h l m =
    let before : (t : ℕ) → t < c → OneAnswer r t = λ t k. below r n t h (omega arith) (omega arith) in
    record { responds = λ i e. response_is r c i h m before e; ready = λ i e. ready_is r c i h m before e }

-- at each clock of a timely run
pub one_answer : (r : Run) (c : ℕ) → Timely r → c < length r.trace → OneAnswer r c
one_answer r c h l = below r (c + 1) c h (omega arith) l

-- the request that responds is the next one, and may be answered
pub answered-next : (r : Run) (c : ℕ) → Timely r → c < length r.trace → responds_at (run_to r c).trace c ≡ true
    → (number_responding (run_to r c) c ≡ Some (next_response (run_to r c).trace c))
    × (next_response (run_to r c).trace c < live_count (run_to r c).trace)
    × Responding (run_to r c).trace (live_choice r (next_response (run_to r c).trace c)).resp c
    (next_response (run_to r c).trace c)
answered-next r c h l t =
    let v = run_to r c in
    let d = responder r c h l t in
    let same : d.0 ≡ next_response v.trace c = (one_answer r c h l).responds d.0 d.3 in
    let within = d.2 in (
      d.1 ∙ ap Some same,
      omega arith,
      subst (λ i. Responding v.trace (live_choice r i).resp c i) same
          (responding-now r c d.0 l d.3),
    )
