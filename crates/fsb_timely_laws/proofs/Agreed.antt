-- Two orderly traces that are the same so far have the same numbers so far.
use Rattle.fsb_timely_laws.proofs.Words
use Words.{ℕ, zero, suc, ◌+◌, ◌<◌, ◌≤◌, ◌≡◌, Bool, true, false, not, ◌&&◌, nat_lt, Option, Some, None, length, max}
use Words.{refl, sym, ap, ◌∙◌, arith, option_map, and_parts, and_from, leb-true, lt-ltb, AgreeBelow, from_clock}
use Words.{nth_where, greater_of, is_before, is_some_and, nth_where-carried, nth_where-found, DRDY, line_at, Trace}
use Words.{AgreeTo, live_clock_of, live_count, is_every_second_from, is_snoop_clock, is_snoop_clock_of, snoop_end_of}
use Words.{snoop_start_of, start_after_clock, start_after_end, does_move, moves_data, response_clock_of, data_clock_of}
use Words.{end_of, AgreeTo-sym, end_of-response, end_of-stays, line_at-agree, live_below_count, live_clock_of-stays}
use Words.{outcome_of-stays, response_clock_of-stays, snoop_clock-start, snoop_end_of-stays, Orderly, HasAnswer}
use Words.{has_answer}
use Rattle.fsb_timely_laws.proofs.Tests.{PassesIn, any-both, before-same}

-- two orderly traces are the same for n clocks
pub record Agreed (n : ℕ) (u v : Trace) : Type 0 where
  pub agree : AgreeTo n u v
  pub left : Orderly u
  pub right : Orderly v

pub Agreed-sym : (n : ℕ) (u v : Trace) → Agreed n u v → Agreed n v u
Agreed-sym n u v a = record { agree = AgreeTo-sym n u v a.agree; left = a.right; right = a.left }

-- a request that responds in an orderly trace has its snoop end two clocks before at least
pub answer-of : (w : Trace) (i t : ℕ) → Orderly w → response_clock_of w i ≡ Some t → HasAnswer w t i
answer-of w i t o e = has_answer w t i (o.timely i t e)

pub moves-stays : (n : ℕ) (u v : Trace) (i t : ℕ) → Agreed n u v → t < n → response_clock_of u i ≡ Some t
    → moves_data u i ≡ moves_data v i
unfolding moves_data
moves-stays n u v i t a l e =
    let h = answer-of u i t a.left e in
    ap (λ o. is_some_and o does_move)
    (outcome_of-stays n u v i h.snoop t a.agree (omega (arith, h.before)) h.is_snoop l e)

pub end-stays : (n : ℕ) (u v : Trace) (i t : ℕ) → Agreed n u v → t < n → end_of u i ≡ Some t → end_of v i ≡ Some t
end-stays n u v i t a l e =
    let p = end_of-response u i t e in
    let h = answer-of u i p.0 a.left p.1 in
    end_of-stays n u v i h.snoop t a.agree (omega (arith, h.before, p.2)) h.is_snoop l e

-- the parts of a data clock: the data move, it is one of four, and it lies from the response on
pub record HasData (w : Trace) (i k t : ℕ) : Type 0 where
  pub moves : (nat_lt k 4 && moves_data w i) ≡ true
  pub response : ℕ
  pub is_response : response_clock_of w i ≡ Some response
  pub place : nth_where (from_clock response (line_at DRDY w)) k (length w) ≡ Some t
  pub above : response ≤ t

data-by : (w : Trace) (i k t : ℕ) (b : Bool) (o : Option ℕ) → (nat_lt k 4 && moves_data w i) ≡ b
    → response_clock_of w i ≡ o → data_clock_of w i k ≡ Some t → HasData w i k t
unfolding data_clock_of from_clock
data-by w i k t false o e f h = let none : None ≡ Some t = rw e at h in absurd (let no : ⊥ = cc in no)
data-by w i k t true None e f h = let none : None ≡ Some t = rw (e, f) at h in absurd (let no : ⊥ = cc in no)
data-by w i k t true (Some r) e f h =
    let place : nth_where (from_clock r (line_at DRDY w)) k (length w) ≡ Some t = rw (e, f) at h in
    let p = nth_where-found (from_clock r (line_at DRDY w)) k (length w) t place in
    record { moves = e; response = r; is_response = f; place = place; above = leb-true r t (and_parts _ _ p.1).0 }

pub data-parts : (w : Trace) (i k t : ℕ) → data_clock_of w i k ≡ Some t → HasData w i k t
data-parts w i k t h =
    data-by w i k t (nat_lt k 4 && moves_data w i) (response_clock_of w i) refl refl h

data-from : (w : Trace) (i k t : ℕ) → HasData w i k t → data_clock_of w i k ≡ Some t
unfolding data_clock_of
data-from w i k t h = rw (h.moves, h.is_response) h.place

pub data-stays : (n : ℕ) (u v : Trace) (i k t : ℕ) → Agreed n u v → t < n → data_clock_of u i k ≡ Some t
    → data_clock_of v i k ≡ Some t
unfolding from_clock
data-stays n u v i k t a l e =
    let h = data-parts u i k t e in
    let r : ℕ = h.response in
    let low : r ≤ t = h.above in
    let same = moves-stays n u v i r a (omega arith) h.is_response in
    let drdy : AgreeBelow (t + 1) (from_clock r (line_at DRDY u)) (from_clock r (line_at DRDY v)) =
    record { same = λ c m. rw (line_at-agree DRDY n u v c a.agree (omega arith)) refl } in
    data-from v i k t (record {
      moves = sym (ap (λ b. nat_lt k 4 && b) same) ∙ h.moves;
      response = r;
      is_response = response_clock_of-stays n u v i r a.agree (omega arith) h.is_response;
      place = nth_where-carried (from_clock r (line_at DRDY u)) (from_clock r (line_at DRDY v)) k (length u)
          (length v) t drdy (omega (arith, a.agree.right)) h.place;
      above = low;
    })

-- what a first snoop clock rests on
first-start : (w : Trace) (s : ℕ) (o : Option ℕ) → live_clock_of w 0 ≡ o → option_map (λ q. q + 4) o ≡ Some s
    → (q : ℕ) × (live_clock_of w 0 ≡ Some q) × (q + 4 ≡ s)
first-start w s None e h = absurd (let no : ⊥ = cc in no)
first-start w s (Some q) e h = (q, e, cc)

next-start : (w : Trace) (i s : ℕ) (o p : Option ℕ) → live_clock_of w (suc i) ≡ o → snoop_end_of w i ≡ p
    → greater_of (option_map (λ q. q + 4) o) (option_map (λ t. t + 3) p) ≡ Some s
    → (q t : ℕ) × (live_clock_of w (suc i) ≡ Some q) × (snoop_end_of w i ≡ Some t) × (max (q + 4) (t + 3) ≡ s)
unfolding greater_of
next-start w i s None p e f h = absurd (let no : ⊥ = cc in no)
next-start w i s (Some q) None e f h = absurd (let no : ⊥ = cc in no)
next-start w i s (Some q) (Some t) e f h = (q, t, e, f, cc)

pub start-stays : (n : ℕ) (u v : Trace) (i s : ℕ) → AgreeTo n u v → s < n → snoop_start_of u i ≡ Some s
    → snoop_start_of v i ≡ Some s
unfolding snoop_start_of start_after_clock start_after_end greater_of
start-stays n u v zero s a l e =
    let p = first-start u s (live_clock_of u 0) refl e in
    let q : ℕ = p.0 in
    let four : q + 4 ≡ s = p.2 in
    rw (live_clock_of-stays n u v 0 q a (omega arith) p.1) (ap (λ m. Some m) four)
start-stays n u v (suc i) s a l e =
    let p = next-start u i s (live_clock_of u (suc i)) (snoop_end_of u i) refl refl e in
    let q : ℕ = p.0 in
    let t : ℕ = p.1 in
    let top : max (q + 4) (t + 3) ≡ s = p.4 in
    rw (
      live_clock_of-stays n u v (suc i) q a (omega arith) p.2,
      snoop_end_of-stays n u v i t a (omega arith) p.3,
    )
    (ap (λ m. Some m) top)

-- the request of a first snoop clock
pub start-clock : (w : Trace) (i s : ℕ) → snoop_start_of w i ≡ Some s
    → (q : ℕ) × (live_clock_of w i ≡ Some q) × (q + 4 ≤ s)
unfolding snoop_start_of start_after_clock start_after_end
start-clock w zero s e =
    let p = first-start w s (live_clock_of w 0) refl e in
    let four : p.0 + 4 ≡ s = p.2 in (p.0, p.1, omega arith)
start-clock w (suc i) s e =
    let p = next-start w i s (live_clock_of w (suc i)) (snoop_end_of w i) refl refl e in
    let top : max (p.0 + 4) (p.1 + 3) ≡ s = p.4 in (p.0, p.2, omega arith)

-- a snoop end is before a clock in both traces
pub ends-before : (n c : ℕ) (u v : Trace) (i : ℕ) → AgreeTo n u v → c ≤ n
    → is_before (snoop_end_of u i) c ≡ is_before (snoop_end_of v i) c
ends-before n c u v i a l =
    before-same n c (snoop_end_of u i) (snoop_end_of v i) l (λ t k e. snoop_end_of-stays n u v i t a k e)
    (λ t k e. snoop_end_of-stays n v u i t (AgreeTo-sym n u v a) k e)

pub responses-before : (n c : ℕ) (u v : Trace) (i : ℕ) → AgreeTo n u v → c ≤ n
    → is_before (response_clock_of u i) c ≡ is_before (response_clock_of v i) c
responses-before n c u v i a l =
    before-same n c (response_clock_of u i) (response_clock_of v i) l
    (λ t k e. response_clock_of-stays n u v i t a k e)
    (λ t k e. response_clock_of-stays n v u i t (AgreeTo-sym n u v a) k e)

snoop_clock-stays : (n c : ℕ) (u v : Trace) → AgreeTo n u v → c < n
    → PassesIn (is_snoop_clock_of u c) (is_snoop_clock_of v c) (live_count u) (live_count v)
unfolding is_snoop_clock_of
snoop_clock-stays n c u v a l = record {
  passes = λ i k e.
      let p = snoop_clock-start u c i e in
      let start : ℕ = p.0 in
      let low : start ≤ c = p.2 in
      let there = start-stays n u v i start a (omega arith) p.1 in
      let q = start-clock v i start there in
      let x = and_parts (nat_lt c (length u) && is_some_and (snoop_start_of u i) (λ s. is_every_second_from s c))
      (not (is_before (snoop_end_of u i) c)) e in
      let y = and_parts (nat_lt c (length u)) (is_some_and (snoop_start_of u i) (λ s. is_every_second_from s c)) x.0 in
      let second = ap (λ o. is_some_and o (λ s. is_every_second_from s c)) (there ∙ sym p.1) ∙ y.1 in
      let unended = ap not (sym (ends-before n c u v i a (omega arith))) ∙ x.1 in
      (live_below_count v i q.0 q.1, and_from _ _ (and_from _ _ (lt-ltb c (length v) (omega (arith, a.right))) second) unended);
}

pub snoop_clock-same : (n c : ℕ) (u v : Trace) → AgreeTo n u v → c < n → is_snoop_clock u c ≡ is_snoop_clock v c
unfolding is_snoop_clock
snoop_clock-same n c u v a l =
    any-both (is_snoop_clock_of u c) (is_snoop_clock_of v c) (live_count u) (live_count v)
    (snoop_clock-stays n c u v a l) (snoop_clock-stays n c v u (AgreeTo-sym n u v a) l)
