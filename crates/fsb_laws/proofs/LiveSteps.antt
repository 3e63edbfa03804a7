-- Live requests, one sample on. Whether a request is live shows three clocks after its first clock.
use Rattle.std.proofs.Common.{ℕ, ◌+◌, ◌<◌, ◌≤◌, ◌≡◌, Bool, true, false, not, ◌&&◌, Some, length, refl, sym, ◌∙◌, arith}
use Rattle.std.proofs.Common.{inl, inr}
use Rattle.std.proofs.lemmas.Bool.{cases_order, and_parts, and_left, and_right, eq-eqb, ne_eqb}
use Rattle.fsb_count.specs.Clocks.{count_where}
use Rattle.fsb_count.proofs.Interface.{count_where-same, nth_where-found, nth_where-at}
use Rattle.fsb_signal.specs.declared.lines.TheConstants.Lines.{ADS, AERR}
use Rattle.fsb_signal.specs.declared.sample.Sample.{Sample}
use Rattle.fsb_signal.specs.Samples.{has_line, line_at}
use Rattle.fsb_signal.proofs.Interface.{line_at-past}
use Rattle.fsb_trace.specs.At.{Trace}
use Rattle.fsb_trace.specs.Requests.{is_cancelled, is_live, live_clock_of, live_number_of}
use Rattle.fsb_laws.specs.OneMore.{OneMore, cancels}
use Rattle.fsb_laws.specs.Orderly.{Spaced}
use Rattle.fsb_laws.proofs.OneMoreFacts.{line_at-old, line_at-new}

-- a live request has ADS# at its first clock
pub is_live-ads : (w : Trace) (q : ℕ) → is_live w q ≡ true → line_at ADS w q ≡ true
unfolding is_live
is_live-ads w q t = (and_parts _ _ t).0

-- the new sample cancels the request three clocks before it, and no other
pub is_cancelled-more : (h : Trace) (x : Sample) (v : Trace) (q : ℕ) → OneMore h x v → q + 3 < length h
    → is_cancelled v q ≡ is_cancelled h q
unfolding is_cancelled
is_cancelled-more h x v q m l = line_at-old AERR h x v (q + 3) m l

is_cancelled-now : (h : Trace) (x : Sample) (v : Trace) (q : ℕ) → OneMore h x v → q + 3 ≡ length h
    → is_cancelled v q ≡ has_line x AERR
unfolding is_cancelled
is_cancelled-now h x v q m e = rw e (line_at-new AERR h x v m)

pub is_cancelled-late : (w : Trace) (q : ℕ) → length w ≤ q + 3 → is_cancelled w q ≡ false
unfolding is_cancelled
is_cancelled-late w q l = line_at-past AERR w (q + 3) l

-- a sample cancels no request but the one three clocks before it
pub not_cancelled : (x : Sample) (n q : ℕ) → (q + 3 ≡ n → ⊥) → cancels x n q ≡ false
unfolding cancels
not_cancelled x n q f = and_right _ _ (ne_eqb (q + 3) n f)

kept : (x : Sample) (n q : ℕ) (b : Bool) → (q + 3 ≡ n → ⊥) → b ≡ (b && not (cancels x n q))
unfolding cancels
kept x n q true f = rw (ne_eqb (q + 3) n f, and_right (has_line x AERR) false refl) refl
kept x n q false f = refl

told : (x : Sample) (n q : ℕ) (a : Bool) → q + 3 ≡ n
    → (a && not (has_line x AERR)) ≡ ((a && true) && not (cancels x n q))
unfolding cancels
told x n q a e = rw (eq-eqb (q + 3) n e) (grind arith)

is_live-known : (h : Trace) (x : Sample) (v : Trace) (q : ℕ) → OneMore h x v → q < length h
    → is_cancelled v q ≡ is_cancelled h q → is_live v q ≡ is_live h q
unfolding is_live
is_live-known h x v q m l e = rw (line_at-old ADS h x v q m l, e) refl

is_live-now : (h : Trace) (x : Sample) (v : Trace) (q : ℕ) → OneMore h x v → q + 3 ≡ length h
    → is_live v q ≡ (is_live h q && not (cancels x (length h) q))
unfolding is_live
is_live-now h x v q m e =
    rw (
      line_at-old ADS h x v q m (omega arith),
      is_cancelled-now h x v q m e,
      is_cancelled-late h q (omega arith),
    ) (told x (length h) q (line_at ADS h q) e)

-- an old request is live as before, unless the sample cancels it
pub is_live-more : (h : Trace) (x : Sample) (v : Trace) (q : ℕ) → OneMore h x v → q < length h
    → is_live v q ≡ (is_live h q && not (cancels x (length h) q))
is_live-more h x v q m l =
    elim (cases_order (q + 3) (length h)) [
      | inl same ↦ is_live-now h x v q m same
      | inr other ↦ elim other [
        | inl less ↦
            is_live-known h x v q m l (is_cancelled-more h x v q m less)
            ∙ kept x (length h) q (is_live h q) (λ e. omega arith)
        | inr more ↦
            let size : length v ≡ length h + 1 = m.size in
            is_live-known h x v q m l (is_cancelled-late v q (omega arith) ∙ sym (is_cancelled-late h q (omega arith)))
            ∙ kept x (length h) q (is_live h q) (λ e. omega arith)
      ]
    ]

-- a request that begins at the new clock is live as far as is known
pub is_live-new : (h : Trace) (x : Sample) (v : Trace) → OneMore h x v → is_live v (length h) ≡ has_line x ADS
unfolding is_live
is_live-new h x v m =
    let size : length v ≡ length h + 1 = m.size in
    rw (line_at-new ADS h x v m, is_cancelled-late v (length h) (omega arith)) (grind arith)

-- a request that has another behind it in the old trace is not cancelled any more
not_now : (h : Trace) (x : Sample) (v : Trace) (c q : ℕ) → OneMore h x v → Spaced h → c < q → q < length h
    → line_at ADS h q ≡ true → (b : Bool) → is_live h c ≡ b → is_live h c ≡ is_live v c
not_now h x v c q m s l k t true e =
    let apart : c + 3 ≤ q = s.apart c q l (is_live-ads h c e) t in
    kept x (length h) c (is_live h c) (λ f. omega arith) ∙ sym (is_live-more h x v c m (omega arith))
not_now h x v c q m s l k t false e =
    e ∙ sym (is_live-more h x v c m (omega arith) ∙ and_left _ _ e)

-- so the numbers of the old live requests stay
pub live_number_of-more : (h : Trace) (x : Sample) (v : Trace) (q : ℕ) → OneMore h x v → Spaced h → q < length h
    → line_at ADS h q ≡ true → live_number_of h q ≡ live_number_of v q
unfolding live_number_of
live_number_of-more h x v q m s l t =
    count_where-same (is_live h) (is_live v) q (record { same = λ c k. not_now h x v c q m s k l t (is_live h c) refl })

-- an old live request that the sample does not cancel keeps its number
pub live_clock_of-more : (h : Trace) (x : Sample) (v : Trace) (i q : ℕ) → OneMore h x v → Spaced h
    → live_clock_of h i ≡ Some q → cancels x (length h) q ≡ false → live_clock_of v i ≡ Some q
unfolding live_clock_of live_number_of
live_clock_of-more h x v i q m s e f =
    let p = nth_where-found (is_live h) i (length h) q e in
    let size : length v ≡ length h + 1 = m.size in
    let l : q < length h = p.0 in
    let live : is_live v q ≡ true = is_live-more h x v q m l ∙ (rw (p.1, f) refl) in
    let number : count_where (is_live v) q ≡ i = sym (live_number_of-more h x v q m s l (is_live-ads h q p.1)) ∙ p.2 in
    rw (← number) (nth_where-at (is_live v) (length v) q (omega arith) live)

-- a live request of the new trace that began before had its number before
pub live_clock_of-less : (h : Trace) (x : Sample) (v : Trace) (i q : ℕ) → OneMore h x v → Spaced h
    → q < length h → live_clock_of v i ≡ Some q → live_clock_of h i ≡ Some q
unfolding live_clock_of live_number_of
live_clock_of-less h x v i q m s l e =
    let p = nth_where-found (is_live v) i (length v) q e in
    let live : is_live h q ≡ true = (and_parts _ _ (sym (is_live-more h x v q m l) ∙ p.1)).0 in
    let number : count_where (is_live h) q ≡ i = live_number_of-more h x v q m s l (is_live-ads h q live) ∙ p.2 in
    rw (← number) (nth_where-at (is_live h) (length h) q l live)

-- a request that begins at the new clock has the next number
pub live_clock_of-new : (h : Trace) (x : Sample) (v : Trace) → OneMore h x v → has_line x ADS ≡ true
    → live_clock_of v (live_number_of v (length h)) ≡ Some (length h)
unfolding live_clock_of live_number_of
live_clock_of-new h x v m t =
    let size : length v ≡ length h + 1 = m.size in
    nth_where-at (is_live v) (length v) (length h) (omega arith) (is_live-new h x v m ∙ t)
