-- What the moments of a timely run have of responses and ends is what its whole trace says.
use Rattle.fsb_tied.proofs.Words
use Words.{ℕ, suc, zero, ◌+◌, ◌<◌, ◌≤◌, ◌≡◌, Bool, true, false, List, [], ◌∷◌, Option, Some, None, length, nat_eq, refl}
use Words.{sym, ap, ◌∙◌, arith, inl, inr, add-one, list_any, filter_map, option_and_then, option_map_or, cases_Bool}
use Words.{eqb-true, eq-eqb, all_where, is_at, all_where-failed, is_at-from, is_at-some, nth_where-at, nth_where-found}
use Words.{Trace, responds_at, response_clock_of, live_clock_of, live_count, end_of, next_response, AgreeTo-sym}
use Words.{end_of-response, end_of-stays, live_below_count, live_clock_of-stays, response_clock_of-stays}
use Words.{snoop_end_of-clock, Orderly, ended_requests, is_end_at, moment_at, requests_ending_at, responded_at, Run}
use Words.{past_of, run_to, Timely, moment-at, any-from, any-listed, length-cut, orderly-at, run_to-agrees}
use Words.{responded_in}
use Rattle.fsb_tied.proofs.WholeOrder.{answered, one-ends}

-- the response that the moment of t has is that of the run up to t
responded-there : (r : Run) (t : ℕ) → t < length r.trace
    → responded_in (past_of r) t ≡ responded_at (run_to r t).trace t
unfolding responded_in past_of moment_at
responded-there r t l = ap (option_and_then (λ moment. moment.responded)) (moment-at r (length r.trace) t l)

pub responded-parts : (v : Trace) (t q : ℕ) (b : Bool) → responds_at v t ≡ b → responded_at v t ≡ Some q
    → (responds_at v t ≡ true) × (live_clock_of v (next_response v t) ≡ Some q)
unfolding responded_at next_response
responded-parts v t q b h1 h2 = grind arith

-- live request i, which begins at q, has its response at t
pub record Responds (r : Run) (i t q : ℕ) : Type 0 where
  pub response : response_clock_of r.trace i ≡ Some t
  pub first : live_clock_of r.trace i ≡ Some q

-- live request i, which begins at q, has its end at t
pub record Ends (r : Run) (i t q : ℕ) : Type 0 where
  pub end : end_of r.trace i ≡ Some t
  pub first : live_clock_of r.trace i ≡ Some q

-- the first clock of a request that responded at t or below is known at t
early : (v : Trace) (i t q u : ℕ) → Orderly v → response_clock_of v i ≡ Some u → u ≤ t → live_clock_of v i ≡ Some q
    → q + 3 < t + 1
early v i t q u o e l f =
    let a = answered v i u o e in
    let gap : a.snoop + 2 ≤ u = a.before in
    let c = snoop_end_of-clock v i a.snoop a.is_snoop in
    let above : c.clock + 4 ≤ a.snoop = c.above in
    let there : live_clock_of v i ≡ Some c.clock = c.is_clock in
    let same : c.clock ≡ q = cc in
    omega arith

-- what responds in the moment of t responds there in the whole trace
pub responded-number : (r : Run) (t q : ℕ) → Timely r → t < length r.trace → responded_in (past_of r) t ≡ Some q
    → (i : ℕ) × Responds r i t q
unfolding response_clock_of next_response
responded-number r t q h l e =
    let v = (run_to r t).trace in
    let size = length-cut r t l in
    let parts = responded-parts v t q (responds_at v t) refl (sym (responded-there r t l) ∙ e) in
    let i : ℕ = next_response v t in
    let there : response_clock_of v i ≡ Some t = nth_where-at (responds_at v) (length v) t (omega arith) parts.0 in
    let back = AgreeTo-sym (t + 1) r.trace v (run_to-agrees r t l) in
    let o = orderly-at r t h l in (
      i,
      record {
        response = response_clock_of-stays (t + 1) v r.trace i t back (omega arith) there;
        first = live_clock_of-stays (t + 1) v r.trace i q back (early v i t q t o there (omega arith) parts.1) parts.1;
      },
    )

pub responded-from : (v : Trace) (i t q : ℕ) → response_clock_of v i ≡ Some t → live_clock_of v i ≡ Some q
    → responded_at v t ≡ Some q
unfolding responded_at response_clock_of
responded-from v i t q e f =
    let p = nth_where-found (responds_at v) i (length v) t e in
    rw (p.1, responded_at, p.2) f

-- and what responds at t in the whole trace does so in the moment of t
pub number-responded : (r : Run) (i t q : ℕ) → t < length r.trace → Orderly r.trace → Responds r i t q
    → responded_in (past_of r) t ≡ Some q
number-responded r i t q l o k =
    let v = (run_to r t).trace in
    let agree = run_to-agrees r t l in
    let response = response_clock_of-stays (t + 1) r.trace v i t agree (omega arith) k.response in
    let first = live_clock_of-stays (t + 1) r.trace v i q agree
    (early r.trace i t q t o k.response (omega arith) k.first) k.first in
    responded-there r t l ∙ responded-from v i t q response first

-- the ends that the moment of t has are those of the run up to t
ended-there : (r : Run) (t : ℕ) → t < length r.trace
    → ended_requests (past_of r) t ≡ requests_ending_at (run_to r t).trace t
unfolding ended_requests past_of moment_at
ended-there r t l = ap (λ o. option_map_or (λ moment. moment.ended) o []) (moment-at r (length r.trace) t l)

-- so a request that ends at t is one of them
pub ended-at : (r : Run) (t q : ℕ) → t < length r.trace
    → is_end_at (past_of r) t q ≡ list_any (nat_eq q) (requests_ending_at (run_to r t).trace t)
unfolding is_end_at
ended-at r t q l = ap (list_any (nat_eq q)) (ended-there r t l)

-- what ends in the moment of t ends there in the whole trace
pub ended-number : (r : Run) (t q : ℕ) → Timely r → t < length r.trace → is_end_at (past_of r) t q ≡ true
    → (i : ℕ) × Ends r i t q
unfolding requests_ending_at
ended-number r t q h l e =
    let v = (run_to r t).trace in
    let k = any-from (λ i. is_at (end_of v i) t) (live_clock_of v) (nat_eq q) (live_count v)
    (sym (ended-at r t q l) ∙ e) in
    let i : ℕ = k.0 in
    let end : end_of v i ≡ Some t = is_at-some (end_of v i) t k.1.there in
    let first : live_clock_of v i ≡ Some q = k.1.gives ∙ ap Some (sym (eqb-true q k.1.given k.1.passes)) in
    let back = AgreeTo-sym (t + 1) r.trace v (run_to-agrees r t l) in
    let o = orderly-at r t h l in
    let p = end_of-response v i t end in
    let u : ℕ = p.0 in
    let low : u ≤ t = p.2 in
    let a = answered v i u o p.1 in
    let gap : a.snoop + 2 ≤ u = a.before in (
      i,
      record {
        end = end_of-stays (t + 1) v r.trace i a.snoop t back (omega arith) a.is_snoop (omega arith) end;
        first = live_clock_of-stays (t + 1) v r.trace i q back (early v i t q u o p.1 low first) first;
      },
    )

-- and what ends at t in the whole trace does so in the moment of t
pub number-ended : (r : Run) (i t q : ℕ) → t < length r.trace → Orderly r.trace → Ends r i t q
    → is_end_at (past_of r) t q ≡ true
unfolding requests_ending_at
number-ended r i t q l o k =
    let v = (run_to r t).trace in
    let agree = run_to-agrees r t l in
    let p = end_of-response r.trace i t k.end in
    let u : ℕ = p.0 in
    let low : u ≤ t = p.2 in
    let a = answered r.trace i u o p.1 in
    let gap : a.snoop + 2 ≤ u = a.before in
    let end = end_of-stays (t + 1) r.trace v i a.snoop t agree (omega arith) a.is_snoop (omega arith) k.end in
    let first = live_clock_of-stays (t + 1) r.trace v i q agree (early r.trace i t q u o p.1 low k.first) k.first in
    ended-at r t q l
    ∙ any-listed (λ j. is_at (end_of v j) t) (live_clock_of v) (nat_eq q) (live_count v) i
    (live_below_count v i q first)
    (record { there = is_at-from (end_of v i) t end; given = q; gives = first; passes = eq-eqb q q refl })

-- where one clock at most passes, one at most is listed
none-below : (test : ℕ → Bool) (n : ℕ) → ((i : ℕ) → i < n → test i ≡ false) → all_where test n ≡ []
unfolding all_where
none-below test zero none = refl
none-below test (suc n) none = rw (none-below test n (λ i l. none i (omega arith)), none n (omega arith)) refl

alone : (f : ℕ → Option ℕ) (n q u : ℕ) (qs : List ℕ) (o : Option ℕ) → f n ≡ o → filter_map f (n ∷ []) ≡ q ∷ u ∷ qs → ⊥
alone f n q u qs None e h = let h' = rw e at h in cc
alone f n q u qs (Some x) e h = let h' = rw e at h in cc

pub one-listed : (test : ℕ → Bool) (f : ℕ → Option ℕ) (n q u : ℕ) (qs : List ℕ)
    → ((i j : ℕ) → test i ≡ true → test j ≡ true → i ≡ j) → filter_map f (all_where test n) ≡ q ∷ u ∷ qs → ⊥
unfolding all_where
one-listed test f zero q u qs one e = cc
one-listed test f (suc n) q u qs one e =
    elim (cases_Bool (test n)) [
      | inl t ↦
          let none : all_where test n ≡ [] = none-below test n (λ i l. other i l t (test i) refl) in
          alone f n q u qs (f n) refl (let e' = rw (none, t) at e in e')
      | inr fails ↦
          one-listed test f n q u qs one
          (ap (filter_map f) (sym (all_where-failed test n fails) ∙ ap (all_where test) (add-one n)) ∙ e)
    ]
  where
    other : (i : ℕ) → i < n → test n ≡ true → (b : Bool) → test i ≡ b → test i ≡ false
    other i h1 h2 b h3 = grind arith

-- one request at most has its end at a clock
pub one-at-end : (r : Run) (t q u : ℕ) (qs : List ℕ) → Timely r → t < length r.trace
    → ended_requests (past_of r) t ≡ q ∷ u ∷ qs → ⊥
unfolding requests_ending_at
one-at-end r t q u qs h l e = grind (arith, one-listed, one-ends, orderly-at, is_at-some, ended-there)
