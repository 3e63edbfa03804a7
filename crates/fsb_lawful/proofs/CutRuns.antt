-- A run that is cut at a clock is a run, and its past is the past up to that clock.
use Rattle.fsb_lawful.proofs.Words
use Words.{ℕ, zero, suc, ◌+◌, ◌<◌, ◌≤◌, ◌≡◌, true, false, not, Some, length, take, refl, sym, ap, ◌∙◌, arith, inl, inr}
use Words.{option_map_or, and_parts, cases_lt, length-take-le, take-append-le, take_all, count_where, count_where-above}
use Words.{count_where-same, count_where-mono, nth_where-found, quiet_choice, ADS, has_line, line_at, Trace, AgreeTo}
use Words.{is_live, is_cancelled, live_clock_of, snoop_end_of, AgreeTo-sym, live_clock_of-stays, snoop_end_of-clock}
use Words.{choice_at, Run, requests_below, run_to, moments_below, past_of, past_to, live_choice, length-moments}
use Rattle.std.proofs.Common.{slice_get}
use Rattle.fsb_lawful.proofs.Cuts.{slice_get-take, take-twice, entries-twice, run_to-agrees}

-- the run up to t of the run up to c
requests-twice : (w : Trace) (t c : ℕ) → t ≤ c → requests_below (take (c + 1) w) (t + 1) ≡ requests_below w (t + 1)
unfolding requests_below line_at
requests-twice w t c l = grind (arith, count_where-same, slice_get-take)

requests-more : (w : Trace) (n m : ℕ) → n ≤ m → requests_below w n ≤ requests_below w m
unfolding requests_below
requests-more w n m k = count_where-mono (line_at ADS w) n m k

choices-twice : (r : Run) (t c : ℕ) → t ≤ c → (run_to (run_to r c) t).choices ≡ (run_to r t).choices
unfolding run_to
choices-twice r t c l = grind (arith, requests-twice, take-twice, requests-more)

pub run-twice : (r : Run) (t c : ℕ) → t ≤ c → run_to (run_to r c) t ≡ run_to r t
unfolding run_to
run-twice r t c l = grind (arith, choices-twice, take-twice, entries-twice)

moments-cut : (r : Run) (c n : ℕ) → n ≤ c + 1 → moments_below (run_to r c) n ≡ moments_below r n
unfolding moments_below run_to
moments-cut r c zero l = refl
moments-cut r c (suc n) l = grind (arith, run-twice, moments-cut r c n (omega arith))

-- the moments below a clock begin those below a later one
moments-begin : (r : Run) (n m : ℕ) → n ≤ m → take n (moments_below r m) ≡ moments_below r n
unfolding moments_below
moments-begin r n zero l = let none : n ≡ zero = omega arith in rw none refl
moments-begin r n (suc m) l =
    elim (cases_lt n (suc m)) [
      | inl less ↦ take-append-le n (moments_below r m) _ (let e = length-moments r m in omega arith)
          ∙ moments-begin r n m (omega arith)
      | inr more ↦
          let same : n ≡ suc m = omega arith in
          rw same (take_all (suc m) (moments_below r (suc m)) (let e = length-moments r (suc m) in omega arith))
    ]

-- the past of a run that is cut
pub past-cut : (r : Run) (c : ℕ) → c < length r.trace → past_of (run_to r c) ≡ past_to (past_of r) c
unfolding past_of past_to run_to
past-cut r c l = grind (arith, length-take-le, moments-begin, moments-cut)

-- the run up to a clock has that clock last
pub length-cut : (r : Run) (c : ℕ) → c < length r.trace → length (run_to r c).trace ≡ c + 1
unfolding run_to
length-cut r c l = length-take-le (c + 1) r.trace (omega arith)

-- the runs up to two clocks agree up to the earlier one
pub cuts-agree : (r : Run) (t c : ℕ) → t ≤ c → c < length r.trace
    → AgreeTo (t + 1) (run_to r t).trace (run_to r c).trace
cuts-agree r t c l m = record {
  left = let e = length-cut r t (omega arith) in omega arith;
  right = let e = length-cut r c m in omega arith;
  same = λ d k. sym ((run_to-agrees r t (omega arith)).same d k) ∙ (run_to-agrees r c m).same d (omega arith);
}

-- the choice for a request that begins up to the cut
choice-same : (r : Run) (c q : ℕ) → q ≤ c → line_at ADS r.trace q ≡ true
    → choice_at (run_to r c).choices (run_to r c).trace q ≡ choice_at r.choices r.trace q
unfolding choice_at run_to requests_below line_at
choice-same r c q l t =
    let before = count_where-same (line_at ADS (take (c + 1) r.trace)) (line_at ADS r.trace) q
    (record {
      same = λ d m. ap (λ o. option_map_or (λ s. has_line s ADS) o false)
          (slice_get-take (c + 1) r.trace d (omega arith));
    }) in
    let above = count_where-above (line_at ADS r.trace) q (c + 1) (omega arith) t in
    ap (λ n. option_map_or (λ choice. choice)
    (slice_get (take (count_where (line_at ADS r.trace) (c + 1)) r.choices) n) quiet_choice) before
    ∙ ap (λ o. option_map_or (λ choice. choice) o quiet_choice)
    (slice_get-take (count_where (line_at ADS r.trace) (c + 1)) r.choices
    (count_where (line_at ADS r.trace) q) above)

-- the first clock of a live request has ADS#
pub live-ads : (w : Trace) (i q : ℕ) → live_clock_of w i ≡ Some q → line_at ADS w q ≡ true
unfolding live_clock_of is_live
live-ads w i q e =
    (and_parts (line_at ADS w q) (not (is_cancelled w q)) (nth_where-found (is_live w) i (length w) q e).1).0

-- the choice for a live request whose snoop end is reached
pub live_choice-same : (r : Run) (c i s : ℕ) → c < length r.trace → snoop_end_of (run_to r c).trace i ≡ Some s
    → live_choice (run_to r c) i ≡ live_choice r i
unfolding live_choice
live_choice-same r c i s l e =
    let h = snoop_end_of-clock (run_to r c).trace i s e in
    let q : ℕ = h.clock in
    let above : q + 4 ≤ s = h.above in
    let size = length-cut r c l in
    let within = h.within in
    let there = live_clock_of-stays (c + 1) (run_to r c).trace r.trace i q
    (AgreeTo-sym (c + 1) r.trace (run_to r c).trace (run_to-agrees r c l)) (omega arith) h.is_clock in
    rw (h.is_clock, there) (choice-same r c q (omega arith) (live-ads r.trace i q there))
