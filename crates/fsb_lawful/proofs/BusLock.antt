-- Rule 9: the bus lock of a timely run begins with a request.
use Rattle.fsb_lawful.proofs.Words
use Words.{ℕ, zero, suc, ◌+◌, ◌-◌, ◌<◌, ◌≤◌, ◌≡◌, Bool, true, false, ◌&&◌, Option, Some, None, length, take, nat_eq}
use Words.{nat_le, refl, sym, ap, ◌∙◌, ◌⊎◌, arith, inl, inr, add-one, slice_get, list_any, option_and_then, option_map}
use Words.{eqb-true, le-leb, length-take-le, is_some_and, AgreeBelow, any_where, from_clock, count_where, nth_where}
use Words.{last_where, holds_since, any_where-at, any_where-found, any_where-same, holds_since-more, nth_where-found}
use Words.{ADS, LOCK, Marks, line_at, Trace, line_back, responds_at, response_code_at, response_code_of, is_live}
use Words.{live_clock_of, is_lock_alone, breaks-9, moment_at, begun_with, retried_at, responded_at, cancelled_at, Past}
use Words.{Owing, Run, run_to, past_of, past_to, begun_at, items_of, is_locked, holds_in, holds_at, Timely, last-same}
use Words.{moment_of, moment-at, Keeps}
use Rattle.fsb_trace.specs.declared.outcome.Outcome.TheVariants.{Retried}
use Rattle.fsb_timely.specs.BusLock.{is_begun_by, is_locked_request, ends_locked_item, is_lock_retried}
use Rattle.fsb_timely.specs.BusLock.{is_lock_cancelled, is_release, is_released_before, keeps_lock, drives_lock}
use Rattle.fsb_lawful.proofs.Cuts.{line-to, past-twice, moments-to, begun-to, any-entry}
use Rattle.fsb_lawful.proofs.Keeping.{and3, same-beq, keeps}

-- gains and losses that agree
since-same : (gain gain' loss loss' : ℕ → Bool) (n : ℕ) → AgreeBelow n gain gain' → AgreeBelow n loss loss'
    → holds_since gain loss n ≡ holds_since gain' loss' n
unfolding holds_since from_clock
since-same gain gain' loss loss' n a b = grind (arith, last-same, any_where-same)

-- a locked request up to c is one of the whole past
request-to : (p : Past) (a c t : ℕ) → t ≤ c → is_locked_request (past_to p c) a t ≡ is_locked_request p a t
unfolding is_locked_request is_begun_by
request-to p a c t l = grind (arith, begun-to, past-twice)

-- the request of a moment, which begins at c or below
named-to : (p : Past) (a c : ℕ) (o : Option ℕ) → ((q : ℕ) → o ≡ Some q → q ≤ c)
    → is_some_and o (is_locked_request (past_to p c) a) ≡ is_some_and o (is_locked_request p a)
unfolding is_some_and
named-to p a c o h1 = grind (arith, request-to)

-- the entries of clock t
entry-to : (p : Past) (a c t : ℕ) → t ≤ c
    → list_any (ends_locked_item (past_to p c) a t) (past_to p c).log ≡ list_any (ends_locked_item p a t) p.log
unfolding past_to ends_locked_item items_of
entry-to p a c t l =
    any-entry (ends_locked_item p a t) t c p.log l
    (λ done e. eqb-true done.clock t
    (and3 (nat_eq done.clock t) (nat_eq done.agent a)
    (is_some_and (slice_get (items_of p a) done.item) is_locked) e).0)

retried_at-below : (w : Trace) (t q : ℕ) → retried_at w t ≡ Some q → q < length w
unfolding retried_at responded_at live_clock_of
retried_at-below w t q e = by-test (nat_eq (response_code_at w t) (response_code_of Retried)) (responds_at w t) e
  where
    by-test : (a b : Bool)
        → elim a [
          | true ↦ elim b [
            | true ↦ nth_where (is_live w) (count_where (responds_at w) t) (length w)
            | false ↦ None
          ]
          | false ↦ None
        ] ≡ Some q → q < length w
    by-test true true e = (nth_where-found (is_live w) (count_where (responds_at w) t) (length w) q e).0
    by-test true false e = absurd (let no : ⊥ = cc in no)
    by-test false b e = absurd (let no : ⊥ = cc in no)

cancelled_at-below : (w : Trace) (t q : ℕ) → cancelled_at w t ≡ Some q → q ≤ t
unfolding cancelled_at
cancelled_at-below w t q e = grind arith

-- the moment of t names requests that begin at t or below
retried-below : (r : Run) (t q : ℕ) → t < length r.trace
    → option_and_then (λ moment. moment.retried) (slice_get (past_of r).moments t) ≡ Some q → q ≤ t
unfolding past_of run_to moment_at
retried-below r t q l e = grind (arith, moment-at, retried_at-below, length-take-le)

cancelled-below : (r : Run) (t q : ℕ) → t < length r.trace
    → option_and_then (λ moment. moment.cancelled) (slice_get (past_of r).moments t) ≡ Some q → q ≤ t
unfolding past_of run_to moment_at
cancelled-below r t q l e = grind (arith, moment-at, cancelled_at-below)

-- a release up to c is one of the whole past
release-to : (r : Run) (a c t : ℕ) → t ≤ c → c < length r.trace
    → is_release (past_to (past_of r) c) a t ≡ is_release (past_of r) a t
unfolding is_release is_lock_retried is_lock_cancelled
release-to r a c t l m = grind (arith, moments-to, entry-to, named-to, retried-below, cancelled-below)

released-to : (r : Run) (a c t : ℕ) → t ≤ c → c < length r.trace
    → is_released_before (past_to (past_of r) c) a t ≡ is_released_before (past_of r) a t
unfolding is_released_before
released-to r a c t l m = ap (λ b. nat_le 1 t && b) (release-to r a c (t - 1) (omega arith) m)

-- whether an agent keeps the bus locked, said of the whole past
keeps-to : (r : Run) (a c n : ℕ) → n ≤ c + 1 → c < length r.trace
    → holds_since (is_locked_request (past_to (past_of r) c) a) (is_released_before (past_to (past_of r) c) a) n
    ≡ holds_since (is_locked_request (past_of r) a) (is_released_before (past_of r) a) n
keeps-to r a c n l m = grind (arith, since-same, request-to, released-to)

-- an agent locks the bus at c, or did so at the clock before
either : (r : Run) (a c : ℕ) → c < length r.trace → keeps_lock (past_to (past_of r) c) c a ≡ true
    → (is_locked_request (past_of r) a c ≡ true)
    ⊎ (holds_since (is_locked_request (past_of r) a) (is_released_before (past_of r) a) c ≡ true)
unfolding keeps_lock
either r a c l e = grind (arith, keeps-to, holds_since-more)

begun-ads : (p : Past) (w : Trace) (c : ℕ) (b : Bool) (test : Owing → Bool) → line_at ADS w c ≡ b
    → is_some_and (begun_with p w c) test ≡ true → line_at ADS w c ≡ true
unfolding is_some_and begun_with
begun-ads p w c b test h1 h2 = grind arith

some-map : {A B : Type 0} (o : Option A) (f : A → B) (test : B → Bool)
    → is_some_and (option_map f o) test ≡ is_some_and o (λ x. test (f x))
unfolding is_some_and
some-map o f test = grind arith

request-begins : (p : Past) (a c : ℕ) (b : Bool) → is_begun_by p a c ≡ b → is_locked_request p a c ≡ true
    → is_begun_by p a c ≡ true
unfolding is_locked_request
request-begins p a c b h1 h2 = grind arith

-- a locked request begins with ADS#
request-ads : (r : Run) (a c : ℕ) → c < length r.trace → is_locked_request (past_of r) a c ≡ true
    → line_at ADS (run_to r c).trace c ≡ true
unfolding is_begun_by begun_at past_of moment_at
request-ads r a c l h =
    let e = request-begins (past_of r) a c (is_begun_by (past_of r) a c) refl h in
    let e' = rw (moment-at r (length r.trace) c l) at e in
    let e'' = sym (some-map (moment_of r c).begun (λ owing. owing.claim) (λ claim. nat_eq claim.agent a)) ∙ e' in
    begun-ads _ (run_to r c).trace c (line_at ADS (run_to r c).trace c) (λ owing. nat_eq owing.claim.agent a) refl e''

agent-locks : (r : Run) (p : Past) (c : ℕ) → drives_lock r p c ≡ true → line_at LOCK r.trace c ≡ true
    → (a : ℕ) × (a < 4) × (keeps_lock p c a ≡ true)
unfolding drives_lock
agent-locks r p c e t = grind (arith, any_where-found)

locks-from : (r : Run) (p : Past) (c a : ℕ) → drives_lock r p c ≡ true → a < 4 → keeps_lock p c a ≡ true
    → line_at LOCK r.trace c ≡ true
unfolding drives_lock
locks-from r p c a e l t =
    same-beq (line_at LOCK r.trace c) (any_where (keeps_lock p c) 4) e ∙ any_where-at (keeps_lock p c) 4 a l t

none-yet : (gain loss : ℕ → Bool) → holds_since gain loss zero ≡ true → ⊥
unfolding holds_since last_where
none-yet gain loss e = let no : ⊥ = cc in no

-- who held the bus locked at the end of a clock did so in it
locked-before : (r : Run) (a c : ℕ) → Timely r → c < length r.trace → a < 4
    → holds_since (is_locked_request (past_of r) a) (is_released_before (past_of r) a) c ≡ true
    → line_back LOCK (run_to r c).trace c 1 ≡ true
unfolding holds_at holds_in keeps_lock line_back
locked-before r a zero h l m e = grind (arith, none-yet)
locked-before r a (suc c) h l m e =
    let there = locks-from (run_to r c) (past_to (past_of r) c) c a (h.bus_lock.at c (omega arith)) m
    (keeps-to r a c (c + 1) (omega arith) (omega arith) ∙ rw (add-one c) e) in
    let same : suc c - 1 ≡ c = omega arith in
    rw (le-leb 1 (suc c) (omega arith), same) (sym (line-to LOCK r c (suc c) (omega arith) l) ∙ there)

begins : (r : Run) (c : ℕ) → Timely r → c < length r.trace → line_at LOCK (run_to r c).trace c ≡ true
    → (line_at ADS (run_to r c).trace c ≡ true) ⊎ (line_back LOCK (run_to r c).trace c 1 ≡ true)
unfolding holds_at holds_in
begins r c h l t =
    let a = agent-locks (run_to r c) (past_to (past_of r) c) c (h.bus_lock.at c l) t in
    elim (either r a.0 c l a.2) [
      | inl new ↦ inl (request-ads r a.0 c l new)
      | inr old ↦ inr (locked-before r a.0 c h l a.1 old)
    ]

at-clock : (r : Run) (c : ℕ) → Timely r → c < length r.trace → is_lock_alone (run_to r c).trace c ≡ false
unfolding is_lock_alone
at-clock r c h l = grind (arith, begins)

-- rule 9
pub keeps-9 : (m : Marks) (r : Run) → Timely r → Keeps m 9 r.trace
unfolding run_to
keeps-9 m r h = keeps m 9 r.trace (λ c l. breaks-9 m (take (c + 1) r.trace) c ∙ at-clock r c h l)
