-- The numbers of an orderly trace, and of its first samples.
use Rattle.fsb_timely_laws.proofs.Words
use Words.{ℕ, zero, suc, ◌+◌, ◌<◌, ◌≡◌, Some, List, [], ◌∷◌, length, take, slice_get, refl, sym, ◌∙◌, arith}
use Words.{length-take-le, count_where-same, nth_where-found, ADS, line_at, Trace, responds_at, AgreeTo}
use Words.{response_clock_of, AgreeTo-sym, line_at-agree, live_clock_of-stays, ready_clock_of-stays}
use Words.{response_clock_of-stays, snoop_end_of-stays, Orderly, ads_before_end, may_answer-stays}
use Rattle.fsb_timely_laws.specs.Numbers.{SameNumbers}
use Rattle.fsb_timely_laws.proofs.Agreed.{Agreed, Agreed-sym, data-stays, end-stays, snoop_clock-same, start-stays}
use Rattle.fsb_timely_laws.proofs.Flights.{in_flight-same, reply_number-stays}

pub get-take : {X : Type 0} (n : ℕ) (xs : List X) (k : ℕ) → k < n → slice_get (take n xs) k ≡ slice_get xs k
get-take zero xs k l = absurd (omega arith)
get-take (suc n) [] k l = refl
get-take (suc n) (x ∷ xs) zero l = refl
get-take (suc n) (x ∷ xs) (suc k) l = get-take n xs k (omega arith)

-- a trace and its first samples
pub cut-agrees : (w : Trace) (c : ℕ) → c < length w → AgreeTo (c + 1) w (take (c + 1) w)
cut-agrees w c l = record {
  left = omega arith;
  right = let e = length-take-le (c + 1) w (omega arith) in omega arith;
  same = λ t m. sym (get-take (c + 1) w t m);
}

response-below : (w : Trace) (i r : ℕ) → response_clock_of w i ≡ Some r → r < length w
unfolding response_clock_of
response-below w i r e = (nth_where-found (responds_at w) i (length w) r e).0

orderly-cut : (w : Trace) (c : ℕ) → Orderly w → c < length w → Orderly (take (c + 1) w)
orderly-cut w c o l =
    let v = take (c + 1) w in
    let a = cut-agrees w c l in
    let back = AgreeTo-sym (c + 1) w v a in
    let size : length v ≡ c + 1 = length-take-le (c + 1) w (omega arith) in
    record {
      spaced = record {
        apart = λ p q m t u.
            let below = ads_before_end v q u in
            o.spaced.apart p q m (line_at-agree ADS (c + 1) w v p a (omega arith) ∙ t)
            (line_at-agree ADS (c + 1) w v q a (omega arith) ∙ u);
      };
      timely = λ i r e.
          let below = response-below v i r e in
          may_answer-stays (c + 1) w v r i a (omega arith)
          (o.timely i r (response_clock_of-stays (c + 1) v w i r back (omega arith) e));
    }

pub cut-agreed : (w : Trace) (c : ℕ) → Orderly w → c < length w → Agreed (c + 1) w (take (c + 1) w)
cut-agreed w c o l = record { agree = cut-agrees w c l; left = o; right = orderly-cut w c o l }

pub numbers-same : (c : ℕ) (w v : Trace) → Orderly w → Orderly v → AgreeTo (c + 1) w v → SameNumbers c w v
numbers-same c w v o m a =
    let n : ℕ = c + 1 in
    let both : Agreed n w v = record { agree = a; left = o; right = m } in
    let back = AgreeTo-sym n w v a in
    let turned = Agreed-sym n w v both in
    record {
      begun = count_where-same (line_at ADS w) (line_at ADS v) c
          (record { same = λ t l. line_at-agree ADS n w v t a (omega arith) });
      live = λ i q l. (live_clock_of-stays n w v i q a (omega arith), live_clock_of-stays n v w i q back (omega arith));
      snoop_start = λ i s l. (start-stays n w v i s a (omega arith), start-stays n v w i s back (omega arith));
      snoop_end = λ i s l. (snoop_end_of-stays n w v i s a (omega arith), snoop_end_of-stays n v w i s back (omega arith));
      ready = λ i y l. (ready_clock_of-stays n w v i y a (omega arith), ready_clock_of-stays n v w i y back (omega arith));
      response = λ i r l.
          (response_clock_of-stays n w v i r a (omega arith), response_clock_of-stays n v w i r back (omega arith));
      chunk = λ i k d l. (data-stays n w v i k d both (omega arith), data-stays n v w i k d turned (omega arith));
      end = λ i e l. (end-stays n w v i e both (omega arith), end-stays n v w i e turned (omega arith));
      reply = λ i j s t l e k f. (
        reply_number-stays n w v i j s t a e (omega arith) f (omega arith),
        reply_number-stays n v w i j s t back (snoop_end_of-stays n w v i s a (omega arith) e) (omega arith)
            (snoop_end_of-stays n w v j t a (omega arith) f) (omega arith),
      );
      flight = in_flight-same n c w v both (omega arith);
      snoop_clock = snoop_clock-same n c w v a (omega arith);
    }

pub numbers-cut : (w : Trace) (c : ℕ) → Orderly w → c < length w → SameNumbers c w (take (c + 1) w)
numbers-cut w c o l =
    let both = cut-agreed w c o l in numbers-same c w (take (c + 1) w) both.left both.right both.agree
