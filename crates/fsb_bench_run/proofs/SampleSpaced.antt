-- The sample of a bench's clock may be the next: RS# is what is driven, and requests keep their distance.
use Rattle.fsb_bench_run.proofs.Words
use Words.{ℕ, ◌+◌, ◌-◌, ◌<◌, ◌≤◌, ◌≡◌, ◌&&◌, ◌||◌, Bool, true, false, Option, Some, is_some, length, nat_le, refl, ap}
use Words.{◌∙◌, arith, option_map, and_parts, leb-true, last_where, is_too_soon, ADS, line_at, last_where-from, Trace}
use Words.{line_back, Latest, Starting, step_decided, step_performed, is_spaced_by, BenchView, next_clock_of, MaySample}
use Words.{IsBenchOf}
use Rattle.fsb_bench_run.proofs.DrivenLines.{ads-driven}
use Rattle.fsb_bench_run.proofs.ResponsesDriven.{code-now}

-- the last request is three clocks behind at least
latest-far : (latest : Option Latest) (n q : ℕ) → option_map (λ (last : Latest). last.clock) latest ≡ Some q
    → is_spaced_by latest n ≡ true → q + 3 ≤ n
latest-far latest n q h1 h2 = grind arith

-- so no request began within two clocks
far-back : (w : Trace) (latest : Option Latest) (d : ℕ)
    → option_map (λ (last : Latest). last.clock) latest ≡ last_where (line_at ADS w) (length w)
    → is_spaced_by latest (length w) ≡ true → 0 < d → d < 3 → line_back ADS w (length w) d ≡ true → ⊥
unfolding line_back
far-back w latest d e spaced some few back =
    let n = length w in
    let p = and_parts (nat_le d n) (line_at ADS w (n - d)) back in
    let low : d ≤ n = leb-true d n p.0 in
    let k = last_where-from (line_at ADS w) n (n - d) (omega arith) p.1 in
    let far = latest-far latest n k.0 (e ∙ k.1) spaced in
    let late = k.2 in omega arith

pub not-soon : (w : Trace) (latest : Option Latest)
    → option_map (λ (last : Latest). last.clock) latest ≡ last_where (line_at ADS w) (length w)
    → is_spaced_by latest (length w) ≡ true
    → (line_back ADS w (length w) 1 || line_back ADS w (length w) 2) ≡ false
not-soon w latest e spaced = grind (arith, far-back)

-- a request begins only where it may
spaced-here : (v : BenchView) (hold : Bool) (starting : Starting) → (step_decided v hold).starting ≡ Some starting
    → is_spaced_by v.bus.latest (next_clock_of v) ≡ true
spaced-here v hold starting e = grind arith

soon-by : (v : BenchView) (hold : Bool) (o : Option Starting) → IsBenchOf v → (step_decided v hold).starting ≡ o
    → (is_some o && (line_back ADS v.run.trace (next_clock_of v) 1
    || line_back ADS v.run.trace (next_clock_of v) 2)) ≡ false
soon-by v hold o h1 h2 = grind (arith, not-soon)

pub may-sample : (v : BenchView) (hold : Bool) → IsBenchOf v → MaySample v hold
unfolding is_too_soon
may-sample v hold b = record {
  answers = code-now v hold;
  spaced =
      ap (λ c. c && (line_back ADS v.run.trace (next_clock_of v) 1 || line_back ADS v.run.trace (next_clock_of v) 2))
      (ads-driven (step_performed v) (next_clock_of v) v.run.plan.profile (step_decided v hold))
      ∙ soon-by v hold (step_decided v hold).starting b refl;
}
