-- What the moments of a timely run have of responses and ends is what its whole trace says.
use Rattle.fsb_run_laws.proofs.Words
use Words.{ℕ, ◌+◌, ◌<◌, ◌≡◌, Bool, true, false, List, [], ◌∷◌, Option, Some, None, length, nat_eq, refl, sym, ap, ◌∙◌}
use Words.{arith, list_any, option_and_then, eq-eqb, is_at, is_at-from, is_at-some, nth_where-at, response_code_at}
use Words.{response_clock_of, response_code_of, live_clock_of, live_count, end_of, live_below_count}
use Words.{response_code_at-agree, Orderly, ended_requests, is_end_at, moment_at, requests_ending_at, responded_at}
use Words.{retried_at, Run, past_of, run_to, moment-at, any-listed, run_to-agrees, responded_in, Ends, Responds}
use Words.{ended-number, number-ended, number-responded, one-at-end, one-ends, one-listed, orderly-whole}
use Words.{responded-from, responded-number, responded-parts, Reaches, retried_in}
use Rattle.fsb_trace.specs.declared.outcome.Outcome.TheVariants.{Retried}
use Rattle.fsb_trace.specs.Rules.{next_response}
use Rattle.fsb_lawful.proofs.Interface.{any-from}

-- two that say the same are the same
alike : (a b : Option ℕ) → ((q : ℕ) → a ≡ Some q → b ≡ Some q) → ((q : ℕ) → b ≡ Some q → a ≡ Some q) → a ≡ b
alike a b h1 h2 = grind arith

whole-responds : (r : Run) (t q : ℕ) → t < length r.trace → responded_at r.trace t ≡ Some q
    → (i : ℕ) × Responds r i t q
unfolding response_clock_of next_response
whole-responds r t q l e = grind (arith, responded-parts, nth_where-at)

pub responded-told : (r : Run) (t : ℕ) → Reaches r (t + 1) → responded_in (past_of r) t ≡ responded_at r.trace t
responded-told r t h =
    let long = h.long in
    let there : t < length r.trace = omega arith in
    alike (responded_in (past_of r) t) (responded_at r.trace t)
    (λ q e. let k = responded-number r t q h.timely there e in responded-from r.trace k.0 t q k.1.response k.1.first)
    (λ q e.
    let k = whole-responds r t q there e in
    number-responded r k.0 t q there (orderly-whole r t h.timely there) k.1)

retried-there : (r : Run) (t : ℕ) → t < length r.trace → retried_in (past_of r) t ≡ retried_at (run_to r t).trace t
unfolding retried_in past_of moment_at
retried-there r t l = ap (option_and_then (λ moment. moment.retried)) (moment-at r (length r.trace) t l)

responded-there : (r : Run) (t : ℕ) → t < length r.trace
    → responded_in (past_of r) t ≡ responded_at (run_to r t).trace t
unfolding responded_in past_of moment_at
responded-there r t l = ap (option_and_then (λ moment. moment.responded)) (moment-at r (length r.trace) t l)

pub retried-told : (r : Run) (t : ℕ) → Reaches r (t + 1) → retried_in (past_of r) t ≡ retried_at r.trace t
unfolding retried_at
retried-told r t h =
    let long = h.long in
    let there : t < length r.trace = omega arith in
    let agree = run_to-agrees r t there in
    let code = response_code_at-agree (t + 1) r.trace (run_to r t).trace t agree (omega arith) in
    let same : responded_at (run_to r t).trace t ≡ responded_at r.trace t =
    sym (responded-there r t there) ∙ responded-told r t h in
    let codes : nat_eq (response_code_at (run_to r t).trace t) (response_code_of Retried)
    ≡ nat_eq (response_code_at r.trace t) (response_code_of Retried) =
    ap (λ n. nat_eq n (response_code_of Retried)) (sym code) in
    retried-there r t there ∙ (λ i. elim (codes i) [ true ↦ same i | false ↦ None ])

-- what is listed as ending at a clock, the whole trace has as such
whole-ends : (r : Run) (t q : ℕ) → list_any (nat_eq q) (requests_ending_at r.trace t) ≡ true → (i : ℕ) × Ends r i t q
unfolding requests_ending_at
whole-ends r t q e = grind (arith, any-from, is_at-some)

ends-listed : (r : Run) (i t q : ℕ) → Ends r i t q → list_any (nat_eq q) (requests_ending_at r.trace t) ≡ true
unfolding requests_ending_at
ends-listed r i t q k =
    let w = r.trace in
    any-listed (λ j. is_at (end_of w j) t) (live_clock_of w) (nat_eq q) (live_count w) i
    (live_below_count w i q k.first)
    (record { there = is_at-from (end_of w i) t k.end; given = q; gives = k.first; passes = eq-eqb q q refl })

whole-one : (r : Run) (t q u : ℕ) (qs : List ℕ) → Orderly r.trace → requests_ending_at r.trace t ≡ q ∷ u ∷ qs → ⊥
unfolding requests_ending_at
whole-one r t q u qs o e = grind (arith, one-listed, one-ends, is_at-some)

-- two lists of one at most that have the same are the same
short-alike : (xs ys : List ℕ) → ((q u : ℕ) (qs : List ℕ) → xs ≡ q ∷ u ∷ qs → ⊥)
    → ((q u : ℕ) (qs : List ℕ) → ys ≡ q ∷ u ∷ qs → ⊥)
    → ((q : ℕ) → list_any (nat_eq q) xs ≡ true → list_any (nat_eq q) ys ≡ true)
    → ((q : ℕ) → list_any (nat_eq q) ys ≡ true → list_any (nat_eq q) xs ≡ true) → xs ≡ ys
short-alike [] [] f g there back = refl
short-alike [] (y ∷ ys) f g there back =
    absurd (let t = back y (rw (eq-eqb y y refl) refl) in let no : ⊥ = cc in no)
short-alike (x ∷ xs) [] f g there back =
    absurd (let t = there x (rw (eq-eqb x x refl) refl) in let no : ⊥ = cc in no)
short-alike (x ∷ u ∷ xs) ys f g there back = absurd (f x u xs refl)
short-alike xs (y ∷ u ∷ ys) f g there back = absurd (g y u ys refl)
short-alike (x ∷ []) (y ∷ []) f g there back =
    ap (λ z. z ∷ []) (only (nat_eq x y) refl (there x (rw (eq-eqb x x refl) refl)))
  where
    only : (b : Bool) → nat_eq x y ≡ b → list_any (nat_eq x) (y ∷ []) ≡ true → x ≡ y
    only b h1 h2 = grind arith

pub ended-told : (r : Run) (t : ℕ) → Reaches r (t + 1) → ended_requests (past_of r) t ≡ requests_ending_at r.trace t
unfolding is_end_at
ended-told r t h =
    let long = h.long in
    let there : t < length r.trace = omega arith in
    let o = orderly-whole r t h.timely there in
    short-alike (ended_requests (past_of r) t) (requests_ending_at r.trace t)
    (λ q u qs e. one-at-end r t q u qs h.timely there e) (λ q u qs e. whole-one r t q u qs o e)
    (λ q e. let k = ended-number r t q h.timely there e in ends-listed r k.0 t q k.1)
    (λ q e. let k = whole-ends r t q e in number-ended r k.0 t q there o k.1)
