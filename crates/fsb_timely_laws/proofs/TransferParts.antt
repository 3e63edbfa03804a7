-- Responses and data: what is said of a clock of the run up to it is said of the whole run.
use Rattle.fsb_timely_laws.proofs.Words
use Words.{ℕ, ◌+◌, ◌<◌, ◌≤◌, ◌≡◌, Bool, true, false, ◌&&◌, ◌||◌, nat_eq, nat_le, Option, Some, None, is_some, length}
use Words.{refl, sym, ap, subst, ◌∙◌, inl, inr, arith, beq, option_and_then, option_map, option_map_or, and_from}
use Words.{and_parts, leb-true, is_at, is_some_and, first_where-found, is_at-from, is_at-some, DBSY, DRDY, TRDY}
use Words.{known_word, does_move, response_clock_of, response_code_of, live_count, answer_from, ready_clock_of, takes}
use Words.{snoop_end_of, chunk_from, is_busy_from, is_ready_from, is_response_from, response_clock_of-stays}
use Words.{response_code_at-agree, Orderly, Run, past_of, run_to, live_choice, code_due, drives_code, drives_data_busy}
use Words.{drives_data_ready, drives_ready, drives_responses, has_data_at, is_busy_at, is_ready_due, is_response_clock}
use Words.{keeps_data_quiet, number_responding, settled_of, settles_to_move, IsReadyDue, Responding, chunk-bounds}
use Words.{map-some, ready-answer, ready-stays, responding-answer, responding-stays, IsSaidOfTheWhole}
use Rattle.fsb_trace.specs.declared.outcome.Outcome.{Outcome}
use Rattle.fsb_timely_laws.proofs.Tests.{PassesIn, any-both, first-both}
use Rattle.fsb_timely_laws.proofs.Agreed.{answer-of}
use Rattle.fsb_timely_laws.proofs.Pairs.{Ordered, Ordered-sym, Paired, Paired-sym, choice-ended, end-there, live-there}
use Rattle.fsb_timely_laws.proofs.Pairs.{ordered-cut, outcome-same}
use Rattle.fsb_timely_laws.proofs.SameUpTo.{SameUpTo, said, same-up-to}
use Rattle.fsb_timely_laws.proofs.StartParts.{agree-of, line-same}

-- the request whose target is to be ready at c
ready-parts : (r : Run) (c i : ℕ) → is_ready_due r c i ≡ true → IsReadyDue r.trace (live_choice r i).trdy c i
unfolding is_ready_due is_ready_from
ready-parts r c i e =
    let wait = (live_choice r i).trdy in
    let a = and_parts (takes r.trace i) (is_at (option_map (λ f. f + wait) (answer_from r.trace i)) c) e in
    let p = map-some (λ f. f + wait) (answer_from r.trace i) c (is_at-some _ c a.1) in
    record { does_take = a.0; from = p.0; is_from = p.1; waits = p.2 }

ready-from : (r : Run) (c i : ℕ) → IsReadyDue r.trace (live_choice r i).trdy c i → is_ready_due r c i ≡ true
unfolding is_ready_due is_ready_from
ready-from r c i k =
    let wait = (live_choice r i).trdy in
    and_from (takes r.trace i) (is_at (option_map (λ f. f + wait) (answer_from r.trace i)) c) k.does_take
    (is_at-from (option_map (λ f. f + wait) (answer_from r.trace i)) c
    (ap (option_map (λ f. f + wait)) k.is_from ∙ ap (λ m. Some m) k.waits))

ready-passes : (c : ℕ) (r s : Run) → Paired c r s
    → PassesIn (is_ready_due r c) (is_ready_due s c) (live_count r.trace) (live_count s.trace)
ready-passes c r s p = record {
  passes = λ i k e.
      let due = ready-parts r c i e in
      let h = ready-answer r.trace (live_choice r i).trdy c i due in
      let there = end-there c r s i h.snoop p h.is_snoop (omega (arith, h.before)) in
      let choice = choice-ended c r s i h.snoop p h.is_snoop (omega (arith, h.before)) in
      let now = ready-stays (c + 1) r.trace s.trace (live_choice r i).trdy c i p.traces (omega arith) due in (
        live-there s.trace i h.snoop there,
        ready-from s c i (subst (λ x. IsReadyDue s.trace x.trdy c i) choice now),
      );
}

-- the request that is to respond at c
responding-by : (r : Run) (c i : ℕ) (b : Bool) → takes r.trace i ≡ b
    → is_response_from b (answer_from r.trace i) (ready_clock_of r.trace i) (live_choice r i).resp c ≡ true
    → Responding r.trace (live_choice r i).resp c i
unfolding is_response_from
responding-by r c i true k e =
    let wait = (live_choice r i).resp in
    let p = map-some (λ y. y + 2 + wait) (ready_clock_of r.trace i) c (is_at-some _ c e) in
    inl (record { does_take = k; ready = p.0; is_ready = p.1; waits = p.2 })
responding-by r c i false k e =
    let wait = (live_choice r i).resp in
    let p = map-some (λ f. f + wait) (answer_from r.trace i) c (is_at-some _ c e) in
    inr (record { takes_none = k; from = p.0; is_from = p.1; waits = p.2 })

pub responding-parts : (r : Run) (c i : ℕ) → is_response_clock r c i ≡ true → Responding r.trace (live_choice r i).resp c i
unfolding is_response_clock
responding-parts r c i e = responding-by r c i (takes r.trace i) refl e

responding-from : (r : Run) (c i : ℕ) → Responding r.trace (live_choice r i).resp c i → is_response_clock r c i ≡ true
unfolding is_response_clock is_response_from
responding-from r c i (inl k) =
    let wait = (live_choice r i).resp in
    rw k.does_take (is_at-from (option_map (λ y. y + 2 + wait) (ready_clock_of r.trace i)) c
    (ap (option_map (λ y. y + 2 + wait)) k.is_ready ∙ ap (λ m. Some m) k.waits))
responding-from r c i (inr k) =
    let wait = (live_choice r i).resp in
    rw k.takes_none (is_at-from (option_map (λ f. f + wait) (answer_from r.trace i)) c
    (ap (option_map (λ f. f + wait)) k.is_from ∙ ap (λ m. Some m) k.waits))

response-passes : (c : ℕ) (r s : Run) → Paired c r s
    → PassesIn (is_response_clock r c) (is_response_clock s c) (live_count r.trace) (live_count s.trace)
response-passes c r s p = record {
  passes = λ i k e.
      let due = responding-parts r c i e in
      let h = responding-answer r.trace (live_choice r i).resp c i due in
      let there = end-there c r s i h.snoop p h.is_snoop (omega (arith, h.before)) in
      let choice = choice-ended c r s i h.snoop p h.is_snoop (omega (arith, h.before)) in
      let now = responding-stays (c + 1) r.trace s.trace (live_choice r i).resp c i p.traces (omega arith) due in (
        live-there s.trace i h.snoop there,
        responding-from s c i (subst (λ x. Responding s.trace x.resp c i) choice now),
      );
}

number-same : (c : ℕ) (r s : Run) → Paired c r s → number_responding r c ≡ number_responding s c
unfolding number_responding
number-same c r s p =
    first-both (is_response_clock r c) (is_response_clock s c) (live_count r.trace) (live_count s.trace)
    (response-passes c r s p) (response-passes c s r (Paired-sym c r s p))

-- what is settled of it
settled-by : (c : ℕ) (r s : Run) (o : Option ℕ) → Paired c r s → number_responding r c ≡ o
    → option_and_then (settled_of r (past_of r)) o ≡ option_and_then (settled_of s (past_of s)) o
unfolding settled_of number_responding
settled-by c r s None p e = refl
settled-by c r s (Some i) p e =
    let f = first_where-found (is_response_clock r c) (live_count r.trace) i e in
    let due = responding-parts r c i f.1 in
    let h = responding-answer r.trace (live_choice r i).resp c i due in
    outcome-same c r s i h.snoop p h.is_snoop (omega (arith, h.before))

code-same : (c : ℕ) (r s : Run) → Paired c r s → code_due r (past_of r) c ≡ code_due s (past_of s) c
unfolding code_due
code-same c r s p =
    let settled = settled-by c r s (number_responding r c) p refl
    ∙ ap (option_and_then (settled_of s (past_of s))) (number-same c r s p) in
    ap (λ (o : Option Outcome). option_map_or response_code_of o 0) settled

-- what a request that has its response up to c has in both runs
pub record Responded (c i t : ℕ) (r s : Run) : Type 0 where
  pub within : i < live_count s.trace
  pub choice : live_choice r i ≡ live_choice s i
  pub settled : settled_of r (past_of r) i ≡ settled_of s (past_of s) i
  pub response : response_clock_of s.trace i ≡ Some t
  pub snoop : ℕ
  pub is_snoop : snoop_end_of r.trace i ≡ Some snoop
  pub before : snoop + 2 ≤ t

pub responded : (c i t : ℕ) (r s : Run) → Ordered c r s → response_clock_of r.trace i ≡ Some t → t ≤ c
    → Responded c i t r s
unfolding settled_of
responded c i t r s o e l =
    let p = o.paired in
    let h = answer-of r.trace i t o.traces.left e in
    let there = end-there c r s i h.snoop p h.is_snoop (omega (arith, h.before)) in
    record {
      within = live-there s.trace i h.snoop there;
      choice = choice-ended c r s i h.snoop p h.is_snoop (omega (arith, h.before));
      settled = outcome-same c r s i h.snoop p h.is_snoop (omega (arith, h.before));
      response = response_clock_of-stays (c + 1) r.trace s.trace i t p.traces (omega arith) e;
      snoop = h.snoop;
      is_snoop = h.is_snoop;
      before = h.before;
    }

-- a clock of the data of a request, and a clock at which it keeps the data bus
chunk-there : (gap c : ℕ) (o : Option ℕ) → is_some (option_and_then (chunk_from gap c) o) ≡ true
    → (t : ℕ) × (o ≡ Some t) × (t ≤ c)
chunk-there gap c None e = absurd (let no : ⊥ = cc in no)
chunk-there gap c (Some t) e = (t, refl, (chunk-bounds gap t c e).0)

busy-there : (gap c : ℕ) (o : Option ℕ) → is_some_and o (is_busy_from gap c) ≡ true → (t : ℕ) × (o ≡ Some t) × (t ≤ c)
unfolding is_some_and is_busy_from
busy-there gap c None e = absurd (let no : ⊥ = cc in no)
busy-there gap c (Some t) e = (t, refl, leb-true t c (and_parts (nat_le t c) _ e).0)

data-passes : (c : ℕ) (r s : Run) → Ordered c r s
    → PassesIn (has_data_at r (past_of r) c) (has_data_at s (past_of s) c) (live_count r.trace) (live_count s.trace)
unfolding has_data_at settles_to_move
data-passes c r s p = record {
  passes = λ i k e.
      let a = and_parts (is_some_and (settled_of r (past_of r) i) does_move)
      (is_some (option_and_then (chunk_from (live_choice r i).gap c) (response_clock_of r.trace i))) e in
      let t = chunk-there (live_choice r i).gap c (response_clock_of r.trace i) a.1 in
      let d = responded c i t.0 r s p t.1 t.2 in
      let response = t.1 ∙ sym d.response in
      let settled = d.settled in
      let choice = d.choice in (
        d.within,
        sym (λ j. is_some_and (settled j) does_move
            && is_some (option_and_then (chunk_from (choice j).gap c) (response j))) ∙ e,
      );
}

busy-passes : (c : ℕ) (r s : Run) → Ordered c r s
    → PassesIn (is_busy_at r (past_of r) c) (is_busy_at s (past_of s) c) (live_count r.trace) (live_count s.trace)
unfolding is_busy_at settles_to_move
busy-passes c r s p = record {
  passes = λ i k e.
      let a = and_parts (is_some_and (settled_of r (past_of r) i) does_move)
      (is_some_and (response_clock_of r.trace i) (is_busy_from (live_choice r i).gap c)) e in
      let t = busy-there (live_choice r i).gap c (response_clock_of r.trace i) a.1 in
      let d = responded c i t.0 r s p t.1 t.2 in
      let response = t.1 ∙ sym d.response in
      let settled = d.settled in
      let choice = d.choice in (
        d.within,
        sym (λ j. is_some_and (settled j) does_move
            && is_some_and (response j) (is_busy_from (choice j).gap c)) ∙ e,
      );
}

responses-same : (c : ℕ) (r s : Run) → SameUpTo c r s → Ordered c r s
    → drives_responses r (past_of r) c ≡ drives_responses s (past_of s) c
unfolding drives_responses drives_ready drives_code drives_data_ready drives_data_busy keeps_data_quiet
responses-same c r s h o =
    let p = h.paired in
    let back = Paired-sym c r s p in
    let turned = Ordered-sym c r s o in
    let m = live_count r.trace in
    let n = live_count s.trace in
    let trdy = line-same TRDY c c r s h (omega arith) in
    let due = any-both (is_ready_due r c) (is_ready_due s c) m n (ready-passes c r s p) (ready-passes c s r back) in
    let code = response_code_at-agree (c + 1) r.trace s.trace c (agree-of c r s h) (omega arith) in
    let coded = code-same c r s p in
    let drdy = line-same DRDY c c r s h (omega arith) in
    let has = any-both (has_data_at r (past_of r) c) (has_data_at s (past_of s) c) m n (data-passes c r s o)
    (data-passes c s r turned) in
    let dbsy = line-same DBSY c c r s h (omega arith) in
    let busy = any-both (is_busy_at r (past_of r) c) (is_busy_at s (past_of s) c) m n (busy-passes c r s o)
    (busy-passes c s r turned) in
    let sample = (agree-of c r s h).same c (omega arith) in
    λ i. beq (trdy i) (due i) && nat_eq (code i) (coded i) && beq (drdy i) (has i) && beq (dbsy i) (busy i)
    && (drdy i || nat_eq (option_map_or (λ x. x.dbus) (sample i) (known_word 0)).bits 0)

pub responses-said : (r : Run) (c : ℕ) → Orderly r.trace → c < length r.trace → IsSaidOfTheWhole drives_responses r c
responses-said r c h l =
    said drives_responses r c l (responses-same c r (run_to r c) (same-up-to r c l) (ordered-cut r c h l))
