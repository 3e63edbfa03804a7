-- A timely run keeps the distance of requests and the order of responses: its trace is orderly at each clock.
use Rattle.fsb_lawful.proofs.Words
use Words.{ℕ, ◌+◌, ◌<◌, ◌≤◌, ◌≡◌, true, false, Some, length, ◌∙◌, arith, inl, inr, subst, cases_lt, nth_where-found}
use Words.{ADS, line_at, Trace, line_back, responds_at, response_clock_of, may_answer, next_response, line_at-agree}
use Words.{responds_at-agree, Orderly, ads_before_end, may_answer-stays, Run, run_to, Timely}
use Rattle.fsb_lawful.proofs.Answers.{answers-in-time}
use Rattle.fsb_lawful.proofs.Beginnings.{Begins, begins-at}
use Rattle.fsb_lawful.proofs.Cuts.{line-to}
use Rattle.fsb_lawful.proofs.CutRuns.{cuts-agree, length-cut}
use Rattle.fsb_lawful.proofs.OneAnswer.{next-same}

back-is : (v : Trace) (p d : ℕ) → line_at ADS v p ≡ true → line_back ADS v (p + d) d ≡ true
unfolding line_back
back-is v p d t = grind arith

not-back : (v : Trace) (p q d : ℕ) → line_at ADS v p ≡ true → line_back ADS v q d ≡ false → q ≡ p + d → ⊥
not-back v p q d t f e = grind (arith, back-is)

begins-from : (r : Run) (q : ℕ) → Timely r → q < length r.trace → line_at ADS (run_to r q).trace q ≡ true
    → Begins (run_to r q).trace q
unfolding run_to
begins-from r q h l t = begins-at r q h l t

far : (r : Run) (c p q : ℕ) → Timely r → c < length r.trace → p < q → line_at ADS (run_to r c).trace p ≡ true
    → line_at ADS (run_to r c).trace q ≡ true → p + 3 ≤ q
far r c p q h l m t u =
    let v = (run_to r c).trace in
    let size = length-cut r c l in
    let within = ads_before_end v q u in
    let here = line-to ADS r q c (omega arith) l ∙ u in
    let b = begins-from r q h (omega arith) here in
    let early = agree-line r p q c m (omega arith) l ∙ t in
    elim (cases_lt (p + 2) q) [
      | inl more ↦ omega arith
      | inr near ↦
          elim (cases_lt (p + 1) q) [
            | inl two ↦ absurd (not-back (run_to r q).trace p q 2 early b.nor_before (omega arith))
            | inr one ↦ absurd (not-back (run_to r q).trace p q 1 early b.not_before (omega arith))
          ]
    ]
  where
    agree-line : (r : Run) (p q c : ℕ) → p < q → q ≤ c → c < length r.trace
        → line_at ADS (run_to r q).trace p ≡ line_at ADS (run_to r c).trace p
    agree-line r p q c l m k = grind (arith, line_at-agree, cuts-agree)

responded : (r : Run) (c i t : ℕ) → Timely r → c < length r.trace
    → response_clock_of (run_to r c).trace i ≡ Some t → may_answer (run_to r c).trace t i ≡ true
unfolding response_clock_of next_response
responded r c i t h l e =
    let v = (run_to r c).trace in
    let size = length-cut r c l in
    let p = nth_where-found (responds_at v) i (length v) t e in
    let below : t < length v = p.0 in
    let agree = cuts-agree r t c (omega arith) l in
    let place = next-same r t c (omega arith) l ∙ p.2 in
    let now = answers-in-time r t h (omega arith)
    (responds_at-agree (t + 1) (run_to r t).trace v t agree (omega arith) ∙ p.1) in
    may_answer-stays (t + 1) (run_to r t).trace v t i agree (omega arith)
    (subst (λ k. may_answer (run_to r t).trace t k ≡ true) place now)

-- the run up to each clock is orderly
pub orderly-at : (r : Run) (c : ℕ) → Timely r → c < length r.trace → Orderly (run_to r c).trace
orderly-at r c h l = grind (arith, far, responded)
