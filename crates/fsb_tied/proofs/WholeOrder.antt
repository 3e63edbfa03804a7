-- The whole trace of a timely run is orderly: its live requests respond and end one after the other.
use Rattle.fsb_tied.proofs.Words
use Words.{ℕ, zero, suc, ◌+◌, ◌-◌, ◌<◌, ◌≤◌, ◌≡◌, Some, length, subst, arith, inl, inr, cases_lt, take_all}
use Words.{nth_where-one, Trace, response_clock_of, is_live, live_clock_of, end_of, end_of-response, Orderly, HasAnswer}
use Words.{clear_parts, has_answer, Run, run_to, Timely, orderly-at}

whole-run : (r : Run) (c : ℕ) → length r.trace ≤ c + 1 → (run_to r c).trace ≡ r.trace
unfolding run_to
whole-run r c l = take_all (c + 1) r.trace l

pub orderly-whole : (r : Run) (n : ℕ) → Timely r → n < length r.trace → Orderly r.trace
orderly-whole r n h l =
    let c : ℕ = length r.trace - 1 in
    subst (λ w. Orderly w) (whole-run r c (omega arith)) (orderly-at r c h (omega arith))

-- a response comes two clocks after its snoop end at least, and after the end before
pub answered : (w : Trace) (i t : ℕ) → Orderly w → response_clock_of w i ≡ Some t → HasAnswer w t i
answered w i t o e = has_answer w t i (o.timely i t e)

-- each earlier live request has ended below the response of a later one
pub ended-before : (w : Trace) (i j t : ℕ) → Orderly w → i < j → response_clock_of w j ≡ Some t
    → (e : ℕ) × (end_of w i ≡ Some e) × (e < t)
ended-before w i zero t o l e = absurd (omega arith)
ended-before w i (suc k) t o l e =
    let a = answered w (suc k) t o e in
    let c = clear_parts w k t a.clear in
    let end : ℕ = c.0 in
    let below : end < t = c.2 in
    elim (cases_lt i k) [
      | inl less ↦
          let p = end_of-response w k end c.1 in
          let first : p.0 ≤ end = p.2 in
          let q = ended-before w i k p.0 o less p.1 in
          let low : q.0 < p.0 = q.2 in
          (q.0, q.1, omega arith)
      | inr more ↦ let same : k ≡ i = omega arith in (end, subst (λ m. end_of w m ≡ Some end) same c.1, below)
    ]

apart : (w : Trace) (i j t : ℕ) → Orderly w → i < j → end_of w i ≡ Some t → end_of w j ≡ Some t → ⊥
apart w i j t o l e f =
    let p = end_of-response w j t f in
    let late : p.0 ≤ t = p.2 in
    let q = ended-before w i j p.0 o l p.1 in
    let low : q.0 < p.0 = q.2 in
    let there : end_of w i ≡ Some q.0 = q.1 in
    let same : q.0 ≡ t = cc in
    omega arith

-- a clock is the end of one live request at most
pub one-ends : (w : Trace) (i j t : ℕ) → Orderly w → end_of w i ≡ Some t → end_of w j ≡ Some t → i ≡ j
one-ends w i j t o e f = grind (arith, apart)

-- a clock is the first one of one live request at most
pub one-begins : (w : Trace) (i j q : ℕ) → live_clock_of w i ≡ Some q → live_clock_of w j ≡ Some q → i ≡ j
unfolding live_clock_of
one-begins w i j q e f = nth_where-one (is_live w) i j (length w) q e f
