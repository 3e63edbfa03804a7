-- A request that is due at the clock after a timely run, for its TRDY# or its response, has not responded yet.
use Rattle.fsb_phase_run.proofs.Words
use Words.{ℕ, ◌+◌, ◌<◌, ◌≤◌, ◌≡◌, true, false, Option, Some, None, length, refl, sym, ◌∙◌, arith, inl, inr, subst}
use Words.{count_where-mono, count_where-same, nth_where-found, responds_at, response_clock_of, next_response}
use Words.{snoop_end_of, responds_at-agree, snoop_end_of-stays, Run, run_to, live_choice, Timely, IsReadyDue}
use Words.{Responding, answered-before, answered-next, one-ready, one-response, one_answer, ready-stays, ready-then}
use Words.{responding-answer, responding-stays, response-before, takes-stays}
use Rattle.fsb_phase_run.proofs.Grown.{agree-cut}

-- live request i responded at t, as the run up to t shows it
pub record Responded (r : Run) (i t : ℕ) : Type 0 where
  pub within : t < length r.trace
  pub number : next_response (run_to r t).trace t ≡ i
  pub when : Responding (run_to r t).trace (live_choice r i).resp t i

pub responded : (r : Run) (i t : ℕ) → Timely r → response_clock_of r.trace i ≡ Some t → Responded r i t
unfolding response_clock_of next_response
responded r i t h e =
    let p = nth_where-found (responds_at r.trace) i (length r.trace) t e in
    let within : t < length r.trace = p.0 in
    let v = (run_to r t).trace in
    let agree = agree-cut r t within in
    let there : responds_at v t ≡ true = responds_at-agree (t + 1) v r.trace t agree (omega arith) ∙ p.1 in
    let a = answered-next r t h within there in
    let same = count_where-same (responds_at v) (responds_at r.trace) t
    (record { same = λ d k. responds_at-agree (t + 1) v r.trace d agree (omega arith) }) in
    let number : next_response v t ≡ i = same ∙ p.2 in
    record { within = within; number = number; when = subst (λ j. Responding v (live_choice r j).resp t j) number a.2 }

-- the snoop end of a request that responded lies two clocks before at least
pub responded-snoop : (r : Run) (i t : ℕ) → Timely r → response_clock_of r.trace i ≡ Some t
    → (x : ℕ) × (snoop_end_of r.trace i ≡ Some x) × (x + 2 ≤ t)
responded-snoop r i t h e =
    let k = responded r i t h e in
    let a = responding-answer (run_to r t).trace (live_choice r i).resp t i k.when in
    let before = a.before in
    let agree = agree-cut r t k.within in (
      a.snoop,
      snoop_end_of-stays (t + 1) (run_to r t).trace r.trace i a.snoop agree (omega arith) a.is_snoop,
      before,
    )

-- not before its snoop end
pub snoops-first : (r : Run) (i : ℕ) → Timely r → snoop_end_of r.trace i ≡ None → response_clock_of r.trace i ≡ None
snoops-first r i h none = by (response_clock_of r.trace i) refl
  where
    by : (o : Option ℕ) → response_clock_of r.trace i ≡ o → response_clock_of r.trace i ≡ None
    by None e = e
    by (Some t) e = let there = (responded-snoop r i t h e).1 in absurd (let no : ⊥ = cc in no)

-- not where it is to respond
pub responds-first : (r : Run) (i : ℕ) → Timely r
    → Responding r.trace (live_choice r i).resp (length r.trace) i → response_clock_of r.trace i ≡ None
responds-first r i h now = by (response_clock_of r.trace i) refl
  where
    by : (o : Option ℕ) → response_clock_of r.trace i ≡ o → response_clock_of r.trace i ≡ None
    by None e = e
    by (Some t) e =
        let k = responded r i t h e in
        let within = k.within in
        let wait = (live_choice r i).resp in
        let v = (run_to r t).trace in
        let then = responding-stays (t + 1) v r.trace wait t i (agree-cut r t within) (omega arith) k.when in
        let same = one-response r.trace wait t (length r.trace) i then now in absurd (omega arith)

-- TRDY# is not due where the request responded
ready-no : (r : Run) (i t : ℕ) → Timely r → t < length r.trace → next_response (run_to r t).trace t ≡ i
    → IsReadyDue r.trace (live_choice r i).trdy (length r.trace) i
    → Responding (run_to r t).trace (live_choice r i).resp t i → ⊥
unfolding next_response
ready-no r i t h l number now (inl k) =
    let v = (run_to r t).trace in
    let waits = k.waits in
    let fewer = count_where-mono (responds_at v) k.ready t (omega arith) in
    let before = λ (u : ℕ) (m : u < t). one_answer r u h (omega arith) in
    let then = ready-then r t i k.ready h l before k.is_ready (omega arith) (omega arith) in
    let wait = (live_choice r i).trdy in
    let later = ready-stays (t + 1) v r.trace wait k.ready i (agree-cut r t l) (omega arith) then in
    let same = one-ready r.trace wait k.ready (length r.trace) i later now in omega arith
ready-no r i t h l number now (inr k) =
    let v = (run_to r t).trace in
    let a = responding-answer v (live_choice r i).resp t i (inr k) in
    let same = takes-stays (t + 1) v r.trace i a.snoop (agree-cut r t l) (let b = a.before in omega arith) a.is_snoop in
    let no : true ≡ false = sym now.does_take ∙ sym same ∙ k.takes_none in cc no

pub ready-first : (r : Run) (i : ℕ) → Timely r
    → IsReadyDue r.trace (live_choice r i).trdy (length r.trace) i → response_clock_of r.trace i ≡ None
ready-first r i h now = by (response_clock_of r.trace i) refl
  where
    by : (o : Option ℕ) → response_clock_of r.trace i ≡ o → response_clock_of r.trace i ≡ None
    by None e = e
    by (Some t) e = let k = responded r i t h e in absurd (ready-no r i t h k.within k.number now k.when)

-- one request alone is to respond
pub one-responds : (r : Run) (i j : ℕ) → Timely r → j < i
    → Responding r.trace (live_choice r i).resp (length r.trace) i
    → Responding r.trace (live_choice r j).resp (length r.trace) j → ⊥
one-responds r i j h l a b =
    let n = length r.trace in
    let place = answered-before r.trace n i (responding-answer r.trace (live_choice r i).resp n i a) in
    let there = response-before r.trace n j (omega arith) (omega arith) in
    let some = there.2 in
    let none = responds-first r j h b in cc
