-- What the stores of a clock make of the states of an agent's lines: those of a hit, and those of an arrival.
use Rattle.fsb_agent_run.proofs.Words
use Words.{ℕ, ◌+◌, ◌≡◌, Bool, true, false, ◌&&◌, ◌||◌, List, [], ◌∷◌, Option, nat_eq, nat_lt, refl, sym, ap, ◌∙◌, arith}
use Words.{list_any, eqb-true, Done, is_some_and, nat_lt-more, Mesi, Exclusive, Invalid, Modified, Shared, Grant, Past}
use Words.{has_arrived, holds_line, is_ended, is_exclusive, latest_grant, is_counted, is_dirty, is_hit, is_store_on}
use Words.{is_stored_since, is_dirty_below, is_stored_below, state_told}
use Rattle.fsb_agent_run.proofs.ToldStates.{state_snooped_at}

-- agent a's entries of c store into the line
abbrev pub any_stored : Past → ℕ → ℕ → ℕ → Bool
any_stored p a line c = list_any (λ done. is_store_on a line done && nat_eq done.clock c) p.log

-- a store makes a line that is held alone Modified
abbrev pub state_with : Bool → Mesi → Mesi
state_with stored Invalid = Invalid
state_with stored Shared = Shared
state_with true Exclusive = Modified
state_with false Exclusive = Exclusive
state_with stored Modified = Modified

with-more : (held own dirty stored : Bool)
    → state_told held own (own && (dirty || stored)) ≡ state_with stored (state_told held own (own && dirty))
with-more held own dirty stored = grind arith

any-split : (f g h : Done → Bool) (log : List Done)
    → list_any (λ done. f done && (g done || h done)) log
    ≡ (list_any (λ done. f done && g done) log || list_any (λ done. f done && h done) log)
any-split f g h [] = refl
any-split f g h (done ∷ log) = grind (arith, any-split f g h log)

at-clock : (x e f m : Bool) → (m ≡ true → e ≡ f) → ((x && e) && m) ≡ (f && (x && m))
at-clock x e f m h1 = grind arith

distributed : (e x y : Bool) → ((e && x) || (e && y)) ≡ (e && (x || y))
distributed e x y = grind arith

-- those of a clock above an end are its stores, where that end is below it
stored-there : (p : Past) (a line c q : ℕ) (log : List Done)
    → list_any (λ done. (is_store_on a line done && is_ended p done.clock q) && nat_eq done.clock c) log
    ≡ (is_ended p c q && list_any (λ done. is_store_on a line done && nat_eq done.clock c) log)
stored-there p a line c q [] = nothing (is_ended p c q)
  where
    nothing : (b : Bool) → false ≡ (b && false)
    nothing true = refl
    nothing false = refl
stored-there p a line c q (done ∷ log) =
    let here = at-clock (is_store_on a line done) (is_ended p done.clock q) (is_ended p c q) (nat_eq done.clock c)
    (λ t. ap (λ k. is_ended p k q) (eqb-true done.clock c t)) in
    let rest = stored-there p a line c q log in
    (λ i. here i || rest i)
    ∙ distributed (is_ended p c q) (is_store_on a line done && nat_eq done.clock c)
    (list_any (λ d. is_store_on a line d && nat_eq d.clock c) log)

any-alike : (f g : Done → Bool) (log : List Done) → ((done : Done) → f done ≡ g done) → list_any f log ≡ list_any g log
any-alike f g [] h = refl
any-alike f g (done ∷ log) h = λ i. h done i || any-alike f g log h i

-- the stores above an end, one clock further
pub stored-more : (p : Past) (a line c q : ℕ) → is_stored_below p a line (c + 1) q
    ≡ (is_stored_below p a line c q || (is_ended p c q && any_stored p a line c))
unfolding is_stored_below
stored-more p a line c q =
    let f : Done → Bool = λ done. is_store_on a line done && is_ended p done.clock q in
    any-alike (λ done. f done && nat_lt done.clock (c + 1))
    (λ done. f done && (nat_lt done.clock c || nat_eq done.clock c))
    p.log (λ done. ap (λ b. f done && b) (nat_lt-more done.clock c))
    ∙ any-split f (λ done. nat_lt done.clock c) (λ done. nat_eq done.clock c) p.log
    ∙ ap (λ b. list_any (λ done. f done && nat_lt done.clock c) p.log || b) (stored-there p a line c q p.log)

counted : (x m hit : Bool) → hit ≡ true → (x || (m && hit)) ≡ (x || m)
counted x m hit e = grind arith

-- with a hit the stores of the clock count, and without one they do not
pub since-hit : (p : Past) (a line c q : ℕ) → is_hit p a c ≡ true
    → is_stored_since p a line c q ≡ is_stored_below p a line (c + 1) q
unfolding is_stored_since is_stored_below is_counted
since-hit p a line c q hit = grind arith

pub since-none : (p : Past) (a line c q : ℕ) → is_hit p a c ≡ false
    → is_stored_since p a line c q ≡ is_stored_below p a line c q
unfolding is_stored_since is_stored_below is_counted
since-none p a line c q none = grind arith

with-latest : (o : Option Grant) (f g : Grant → Bool) (b : Bool)
    → is_some_and o (λ x. x.owns || (f x || (g x && b)))
    ≡ (is_some_and o (λ x. x.owns || f x) || (is_some_and o g && b))
unfolding is_some_and
with-latest o f g b = grind arith

-- the state of a line with the stores of the clock's hit
pub hit-state : (p : Past) (a line c : ℕ) → is_hit p a c ≡ true
    → state_told (holds_line p a line c) (is_exclusive p a line c) (is_dirty p a line c)
    ≡ state_with (has_arrived p a line c c && any_stored p a line c)
    (state_told (holds_line p a line c) (is_exclusive p a line c) (is_dirty_below p a line c))
unfolding is_dirty is_dirty_below has_arrived
hit-state p a line c hit =
    let held = holds_line p a line c in
    let own = is_exclusive p a line c in
    let latest = latest_grant p a line c in
    (λ i. state_told held own (own && is_some_and latest (λ grant. grant.owns || (since-hit p a line c grant.first hit
    ∙ stored-more p a line c grant.first) i)))
    ∙ ap (λ b. state_told held own (own && b))
    (with-latest latest (λ grant. is_stored_below p a line c grant.first) (λ grant. is_ended p c grant.first)
    (any_stored p a line c))
    ∙ with-more held own (is_some_and latest (λ grant. grant.owns || is_stored_below p a line c grant.first))
    (is_some_and latest (λ grant. is_ended p c grant.first) && any_stored p a line c)

-- the state of a line behind the clock: with the stores of an arrival
pub end-state : (p : Past) (a line c : ℕ) → is_hit p a c ≡ false
    → state_told (holds_line p a line (c + 1)) (is_exclusive p a line (c + 1)) (is_dirty_below p a line (c + 1))
    ≡ state_with (has_arrived p a line (c + 1) c && any_stored p a line c) (state_snooped_at p a line c)
unfolding is_dirty_below has_arrived
end-state p a line c none =
    let held = holds_line p a line (c + 1) in
    let own = is_exclusive p a line (c + 1) in
    let latest = latest_grant p a line (c + 1) in
    (λ i. state_told held own (own && is_some_and latest (λ grant. grant.owns || stored-more p a line c grant.first i)))
    ∙ ap (λ b. state_told held own (own && b))
    (with-latest latest (λ grant. is_stored_below p a line c grant.first) (λ grant. is_ended p c grant.first)
    (any_stored p a line c))
    ∙ with-more held own (is_some_and latest (λ grant. grant.owns || is_stored_below p a line c grant.first))
    (is_some_and latest (λ grant. is_ended p c grant.first) && any_stored p a line c)
    ∙ (λ i. state_with (is_some_and latest (λ grant. is_ended p c grant.first) && any_stored p a line c)
    (state_told held own
    (own && is_some_and latest (λ grant. grant.owns || sym (since-none p a line c grant.first none) i))))

-- with a hit the stores of the clock have been counted
pub end-state_hit : (p : Past) (a line c : ℕ) → is_hit p a c ≡ true
    → state_told (holds_line p a line (c + 1)) (is_exclusive p a line (c + 1)) (is_dirty_below p a line (c + 1))
    ≡ state_snooped_at p a line c
unfolding is_dirty_below
end-state_hit p a line c hit = grind (arith, since-hit)
