-- The state of a line at an agent, by what happens at a clock.
use Rattle.fsb_run_laws.proofs.Words
use Words.{ℕ, ◌+◌, ◌≡◌, Bool, true, false, ◌&&◌, ◌||◌, if◌then◌else◌, nat_eq, nat_lt, List, [], ◌∷◌, Option, refl, ap}
use Words.{◌∙◌, arith, list_any, and_parts, or_left, or_right, is_some_and, nat_lt-more, Done, Grant, Past, holds_line}
use Words.{is_ended, is_evicted, is_exclusive, is_granted, is_lost, is_named_by_other, is_taken_away, is_written_back}
use Words.{latest_grant, is_dirty, is_hit, is_store_on, line_state_of, holds_line-more, is_exclusive-more}
use Words.{is_dirty_below, is_dirty_through, is_stored_below, dirty-by-hits, dirty-more, state_below, state_of_tests}
use Words.{state_read, state_stored, state_through, stores_at}
use Rattle.fsb_line.specs.declared.state.Mesi.TheVariants.{Invalid, Shared, Exclusive, Modified}

-- the state is told by holding, having for itself, and being dirty
by-tests : (held own dirty : Bool)
    → (elim held [
      | false ↦ Invalid
      | true ↦ elim own [ false ↦ Shared | true ↦ elim dirty [ true ↦ Modified | false ↦ Exclusive ] ]
    ])
    ≡ state_of_tests held own dirty
unfolding state_of_tests
by-tests held own dirty = grind arith

by-choice : (held own x y b : Bool)
    → state_of_tests held own (if b then x else y)
    ≡ (if b then state_of_tests held own x else state_of_tests held own y)
by-choice held own x y b = grind arith

pub state-by-hits : (p : Past) (a line n : ℕ)
    → line_state_of p a line n ≡ (if is_hit p a n then state_through p a line n else state_below p a line n)
unfolding line_state_of state_through state_below
state-by-hits p a line n =
    let held = holds_line p a line n in
    let own = is_exclusive p a line n in
    by-tests held own (is_dirty p a line n) ∙ ap (state_of_tests held own) (dirty-by-hits p a line n)
    ∙ by-choice held own (is_dirty_through p a line n) (is_dirty_below p a line n) (is_hit p a n)

any-split : (f : Done → Bool) (n : ℕ) (log : List Done)
    → list_any (λ done. f done && nat_lt done.clock (n + 1)) log
    ≡ (list_any (λ done. f done && nat_lt done.clock n) log || list_any (λ done. f done && nat_eq done.clock n) log)
any-split f n [] = refl
any-split f n (done ∷ log) = grind (arith, nat_lt-more, any-split f n log)

stored-more : (p : Past) (a line n q : ℕ) → is_stored_below p a line (n + 1) q
    ≡ (is_stored_below p a line n q
    || list_any (λ done. is_store_on a line done && is_ended p done.clock q && nat_eq done.clock n) p.log)
unfolding is_stored_below
stored-more p a line n q = any-split (λ done. is_store_on a line done && is_ended p done.clock q) n p.log

with-stores : (o : Option Grant) (f g : Grant → Bool)
    → is_some_and o (λ x. x.owns || (f x || g x)) ≡ (is_some_and o (λ x. x.owns || f x) || is_some_and o g)
unfolding is_some_and
with-stores o f g = grind arith

-- what stores make of a state
by-stores : (held own dirty stored : Bool) → (own ≡ true → held ≡ true)
    → state_of_tests held own (own && (dirty || stored))
    ≡ (if stored then state_stored (state_of_tests held own (own && dirty)) else state_of_tests held own (own && dirty))
unfolding state_of_tests state_stored
by-stores held own dirty stored h1 = grind arith

exclusive-held : (p : Past) (a line n : ℕ) → is_exclusive p a line n ≡ true → holds_line p a line n ≡ true
unfolding is_exclusive
exclusive-held p a line n e = (and_parts (holds_line p a line n) _ (and_parts _ _ e).0).0

pub state-by-stores : (p : Past) (a line n : ℕ) → state_through p a line n
    ≡ (if stores_at p a line n then state_stored (state_below p a line n) else state_below p a line n)
unfolding state_through state_below is_dirty_through is_dirty_below stores_at
state-by-stores p a line n =
    let held = holds_line p a line n in
    let own = is_exclusive p a line n in
    let latest = latest_grant p a line n in
    let now : ℕ → Bool =
    λ q. list_any (λ done. is_store_on a line done && is_ended p done.clock q && nat_eq done.clock n) p.log in
    (λ i. state_of_tests held own
    (own && is_some_and latest (λ grant. grant.owns || stored-more p a line n grant.first i)))
    ∙ ap (λ b. state_of_tests held own (own && b))
    (with-stores latest (λ grant. is_stored_below p a line n grant.first) (λ grant. now grant.first))
    ∙ by-stores held own (is_some_and latest (λ grant. grant.owns || is_stored_below p a line n grant.first))
    (is_some_and latest (λ grant. now grant.first)) (exclusive-held p a line n)

-- the state one clock on, where the line is not granted to the agent
pub state-kept : (p : Past) (a line n : ℕ) → is_granted p a line n ≡ false → state_below p a line (n + 1)
    ≡ (if is_lost p a line n then Invalid
    else (if is_named_by_other p a line n then state_read (state_through p a line n) else state_through p a line n))
unfolding state_below state_through state_of_tests state_read
state-kept p a line n f = grind (arith, holds_line-more, is_exclusive-more, dirty-more)

pub state-lost : (p : Past) (a line n : ℕ) → is_granted p a line n ≡ false → is_lost p a line n ≡ true
    → state_below p a line (n + 1) ≡ Invalid
state-lost p a line n f t = state-kept p a line n f ∙ rw t refl

pub state-named : (p : Past) (a line n : ℕ) → is_granted p a line n ≡ false → is_lost p a line n ≡ false
    → is_named_by_other p a line n ≡ true → state_below p a line (n + 1) ≡ state_read (state_through p a line n)
state-named p a line n f g t = state-kept p a line n f ∙ rw (g, t) refl

pub state-same : (p : Past) (a line n : ℕ) → is_granted p a line n ≡ false → is_lost p a line n ≡ false
    → is_named_by_other p a line n ≡ false → state_below p a line (n + 1) ≡ state_through p a line n
state-same p a line n f g h = state-kept p a line n f ∙ rw (g, h) refl

-- the line is lost by the agent's first clock for a rival, by its write-back, or by what another agent asks
pub lost-evicted : (p : Past) (a line n : ℕ) → is_evicted p a line n ≡ true → is_lost p a line n ≡ true
unfolding is_lost
lost-evicted p a line n e = rw e refl

pub lost-written : (p : Past) (a line n : ℕ) → is_written_back p a line n ≡ true → is_lost p a line n ≡ true
unfolding is_lost
lost-written p a line n e = or_left _ _ (or_right (is_evicted p a line n) _ e)

pub lost-taken : (p : Past) (a line n : ℕ) → is_taken_away p a line n ≡ true → is_lost p a line n ≡ true
unfolding is_lost
lost-taken p a line n e = or_right _ _ e
