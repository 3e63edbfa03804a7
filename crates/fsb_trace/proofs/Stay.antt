-- A number that is reached stays as it is in every trace that agrees up to it.
use Rattle.std.proofs.Common.{ℕ, zero, suc, ◌+◌, ◌<◌, ◌≤◌, ◌≡◌, Option, Some, None, length, max, refl, ap, arith, not}
use Rattle.std.proofs.Common.{◌&&◌, add-one}
use Rattle.std.specs.Option.{option_and_then, option_map}
use Rattle.std.proofs.lemmas.Bool.{and_parts, leb-true}
use Rattle.fsb_count.specs.Options.{greater_of}
use Rattle.fsb_count.proofs.Interface.{first_where-carried, first_where-found, nth_where-carried}
use Rattle.fsb_signal.specs.declared.lines.TheConstants.Lines.{ADS}
use Rattle.fsb_signal.specs.Samples.{line_at}
use Rattle.fsb_trace.specs.At.{Trace, responds_at}
use Rattle.fsb_trace.specs.Requests.{first_clock_of, is_live, live_clock_of}
use Rattle.fsb_trace.specs.Snoop.{is_every_second_from, ends_snoop, snoop_end_from, snoop_end_if, start_after_clock}
use Rattle.fsb_trace.specs.Snoop.{start_after_end, snoop_end_of}
use Rattle.fsb_trace.specs.Outcome.{response_clock_of}
use Rattle.fsb_trace.specs.Agree.{AgreeTo}
use Rattle.fsb_trace.proofs.AgreeAt.{line_at-agree, responds_at-agree, stalls_at-agree, is_live-agree}

pub first_clock_of-stays : (n : ℕ) (w v : Trace) (k q : ℕ) → AgreeTo n w v → q < n → first_clock_of w k ≡ Some q
    → first_clock_of v k ≡ Some q
unfolding first_clock_of
first_clock_of-stays n w v k q a l e =
    nth_where-carried (line_at ADS w) (line_at ADS v) k (length w) (length v) q
    (record { same = λ c k. line_at-agree ADS n w v c a (omega arith) }) (omega (arith, a.right)) e

-- a request is known to be live once the clock of its address error is there
pub live_clock_of-stays : (n : ℕ) (w v : Trace) (i q : ℕ) → AgreeTo n w v → q + 3 < n
    → live_clock_of w i ≡ Some q → live_clock_of v i ≡ Some q
unfolding live_clock_of
live_clock_of-stays n w v i q a l e =
    nth_where-carried (is_live w) (is_live v) i (length w) (length v) q
    (record { same = λ c k. is_live-agree n w v c a (omega arith) }) (omega (arith, a.right)) e

pub response_clock_of-stays : (n : ℕ) (w v : Trace) (i r : ℕ) → AgreeTo n w v → r < n
    → response_clock_of w i ≡ Some r → response_clock_of v i ≡ Some r
unfolding response_clock_of
response_clock_of-stays n w v i r a l e =
    nth_where-carried (responds_at w) (responds_at v) i (length w) (length v) r
    (record { same = λ c k. responds_at-agree n w v c a (omega arith) }) (omega (arith, a.right)) e

-- where a snoop ends
pub snoop_end_from-found : (w : Trace) (start s : ℕ) → snoop_end_from w start ≡ Some s → (s < length w) × (start ≤ s)
unfolding snoop_end_from ends_snoop is_every_second_from
snoop_end_from-found w start s e =
    let h = first_where-found (ends_snoop w start) (length w) s e in
    (h.0, leb-true start s ((and_parts _ _ ((and_parts _ _ h.1).0)).0))

pub snoop_end_from-stays : (n : ℕ) (w v : Trace) (start s : ℕ) → AgreeTo n w v → s < n
    → snoop_end_from w start ≡ Some s → snoop_end_from v start ≡ Some s
unfolding snoop_end_from ends_snoop
snoop_end_from-stays n w v start s a l e =
    first_where-carried (ends_snoop w start) (ends_snoop v start) (length w) (length v) s
    (record { same = λ c k. ap (λ b. is_every_second_from start c && not b) (stalls_at-agree n w v c a (omega arith)) })
    (omega (arith, a.right)) e

-- the parts of a snoop end of the first live request
first_parts : (w : Trace) (s : ℕ) (o : Option ℕ) → live_clock_of w 0 ≡ o
    → option_and_then (snoop_end_from w) (option_map (λ q. q + 4) o) ≡ Some s
    → (q : ℕ) × (live_clock_of w 0 ≡ Some q) × (snoop_end_from w (q + 4) ≡ Some s)
first_parts w s None e h = absurd (let no : ⊥ = cc in no)
first_parts w s (Some q) e h = (q, e, h)

-- the parts of that of another one
next_parts : (w : Trace) (i s : ℕ) (o p : Option ℕ) → live_clock_of w (suc i) ≡ o → snoop_end_of w i ≡ p
    → option_and_then (snoop_end_from w) (greater_of (option_map (λ q. q + 4) o) (option_map (λ t. t + 3) p))
    ≡ Some s → (q t : ℕ) × (live_clock_of w (suc i) ≡ Some q) × (snoop_end_of w i ≡ Some t)
    × (snoop_end_from w (max (q + 4) (t + 3)) ≡ Some s)
unfolding greater_of
next_parts w i s None p e f h = absurd (let no : ⊥ = cc in no)
next_parts w i s (Some q) None e f h = absurd (let no : ⊥ = cc in no)
next_parts w i s (Some q) (Some t) e f h = (q, t, e, f, h)

clocks_of_first : (w : Trace) (s : ℕ) → snoop_end_of w 0 ≡ Some s
    → (q : ℕ) × (live_clock_of w 0 ≡ Some q) × (snoop_end_from w (q + 4) ≡ Some s)
unfolding snoop_end_of snoop_end_if start_after_clock
clocks_of_first w s e = first_parts w s (live_clock_of w 0) refl e

clocks_of_next : (w : Trace) (i s : ℕ) → snoop_end_of w (suc i) ≡ Some s
    → (q t : ℕ) × (live_clock_of w (suc i) ≡ Some q) × (snoop_end_of w i ≡ Some t)
    × (snoop_end_from w (max (q + 4) (t + 3)) ≡ Some s)
unfolding snoop_end_of snoop_end_if start_after_clock start_after_end
clocks_of_next w i s e = next_parts w i s (live_clock_of w (suc i)) (snoop_end_of w i) refl refl e

first_from_clocks : (w : Trace) (q s : ℕ) → live_clock_of w 0 ≡ Some q → snoop_end_from w (q + 4) ≡ Some s
    → snoop_end_of w 0 ≡ Some s
unfolding snoop_end_of snoop_end_if start_after_clock
first_from_clocks w q s e f = rw e f

next_from_clocks : (w : Trace) (i q t s : ℕ) → live_clock_of w (suc i) ≡ Some q → snoop_end_of w i ≡ Some t
    → snoop_end_from w (max (q + 4) (t + 3)) ≡ Some s → snoop_end_of w (suc i) ≡ Some s
unfolding snoop_end_of snoop_end_if start_after_clock start_after_end greater_of
next_from_clocks w i q t s e f g = rw (e, f) g

-- a snoop end lies four clocks after its request's first clock at least, and three after the snoop end before it
pub record HasClock (w : Trace) (i s : ℕ) : Type 0 where
  pub clock : ℕ
  pub is_clock : live_clock_of w i ≡ Some clock
  pub above : clock + 4 ≤ s
  pub within : s < length w

pub snoop_end_of-clock : (w : Trace) (i s : ℕ) → snoop_end_of w i ≡ Some s → HasClock w i s
snoop_end_of-clock w zero s e =
    let h = clocks_of_first w s e in
    let k = snoop_end_from-found w _ s h.2 in
    record { clock = h.0; is_clock = h.1; above = k.1; within = k.0 }
snoop_end_of-clock w (suc i) s e =
    let h = clocks_of_next w i s e in
    let k = snoop_end_from-found w _ s h.4 in
    let low : max (h.0 + 4) (h.1 + 3) ≤ s = k.1 in
    record { clock = h.0; is_clock = h.2; above = omega arith; within = k.0 }

pub snoop_end_of-before : (w : Trace) (i s : ℕ) → snoop_end_of w (i + 1) ≡ Some s
    → (t : ℕ) × (snoop_end_of w i ≡ Some t) × (t + 3 ≤ s)
snoop_end_of-before w i s e =
    let h = clocks_of_next w i s (rw add-one at e) in
    let k = snoop_end_from-found w _ s h.4 in
    let low : max (h.0 + 4) (h.1 + 3) ≤ s = k.1 in
    (h.1, h.3, omega arith)

-- a snoop end stays
pub snoop_end_of-stays : (n : ℕ) (w v : Trace) (i s : ℕ) → AgreeTo n w v → s < n → snoop_end_of w i ≡ Some s
    → snoop_end_of v i ≡ Some s
snoop_end_of-stays n w v zero s a l e =
    let h = clocks_of_first w s e in
    let q : ℕ = h.0 in
    let k : q + 4 ≤ s = (snoop_end_from-found w _ s h.2).1 in
    first_from_clocks v q s (live_clock_of-stays n w v 0 q a (omega arith) h.1)
    (snoop_end_from-stays n w v (q + 4) s a l h.2)
snoop_end_of-stays n w v (suc i) s a l e =
    let h = clocks_of_next w i s e in
    let q : ℕ = h.0 in
    let t : ℕ = h.1 in
    let k : max (q + 4) (t + 3) ≤ s = (snoop_end_from-found w _ s h.4).1 in
    next_from_clocks v i q t s (live_clock_of-stays n w v (suc i) q a (omega arith) h.2)
    (snoop_end_of-stays n w v i t a (omega arith) h.3)
    (snoop_end_from-stays n w v (max (q + 4) (t + 3)) s a l h.4)
