-- The stores of the hits of a clock make their agents dirty.
use Rattle.fsb_coherent.proofs.Words
use Words.{ℕ, ◌+◌, ◌≡◌, Bool, true, false, not, ◌&&◌, ◌||◌, nat_eq, nat_lt, List, [], ◌∷◌, Option, refl, sym, ap, ◌∙◌}
use Words.{inl, inr, arith, and-false, and_parts, cases_Bool, eqb-true, filter, list_all, list_any, is_some_and}
use Words.{nat_lt-more, Done, accessed_line, Grant, Past, has_arrived, holds_line, is_ended, is_exclusive, is_ready}
use Words.{latest_grant, is_dirty, is_hit, is_store_on, is_load, is_served_hit, entries_on, is_dirty_below}
use Words.{is_dirty_through, is_stored_below}
use Rattle.fsb_coherent.proofs.DirtySteps.{dirty-hit, dirty-none}

-- the entry is a store of a hit of agent a at n
abbrev pub does_store : Past → ℕ → ℕ → Done → Bool
does_store p n a done = is_hit p done.agent n && (nat_eq done.agent a && not (is_load done.access))

pub served-parts : (p : Past) (line n : ℕ) (done : Done) → is_hit p done.agent n ≡ true
    → is_served_hit p line n done ≡ true → (holds_line p done.agent line n ≡ true)
    × (is_ready p done.agent line n ≡ true) × ((is_load done.access || is_exclusive p done.agent line n) ≡ true)
unfolding is_served_hit
served-parts p line n done hit served = grind arith

pub by-store : (load alone : Bool) → not load ≡ true → (load || alone) ≡ true → alone ≡ true
by-store load alone h1 h2 = grind arith

-- an agent that stores in a hit has the line ready and for itself
storer : (p : Past) (line n a : ℕ) (es : List Done) → list_all (is_served_hit p line n) es ≡ true
    → list_any (does_store p n a) es ≡ true → (is_ready p a line n ≡ true) × (is_exclusive p a line n ≡ true)
storer p line n a [] served some = absurd (let no : ⊥ = cc in no)
storer p line n a (done ∷ es) served some =
    let parts = and_parts (is_served_hit p line n done) (list_all (is_served_hit p line n) es) served in
    elim (cases_Bool (does_store p n a done)) [
      | inl here ↦
          let test = and_parts (is_hit p done.agent n) (nat_eq done.agent a && not (is_load done.access)) here in
          let store = and_parts (nat_eq done.agent a) (not (is_load done.access)) test.1 in
          let same = eqb-true done.agent a store.0 in
          let has = served-parts p line n done test.0 parts.0 in
          let alone = by-store (is_load done.access) (is_exclusive p done.agent line n) store.1 has.2 in
          (sym (ap (λ k. is_ready p k line n) same) ∙ has.1, sym (ap (λ k. is_exclusive p k line n) same) ∙ alone)
      | inr none ↦ storer p line n a es parts.1 (sym (ap (λ b. b || list_any (does_store p n a) es) none) ∙ some)
    ]

-- an agent with no hit stores in none
unstored : (p : Past) (n a : ℕ) (es : List Done) → is_hit p a n ≡ false → list_any (does_store p n a) es ≡ false
unstored p n a [] f = refl
unstored p n a (done ∷ es) f = grind (arith, unstored p n a es f)

any-filter : {X : Type 0} (f g : X → Bool) (xs : List X) → list_any f (filter g xs) ≡ list_any (λ x. g x && f x) xs
any-filter f g [] = refl
any-filter f g (x ∷ xs) = grind (arith, any-filter f g xs)

any-split : {X : Type 0} (f g h : X → Bool) (e : Bool) (xs : List X) → ((x : X) → f x ≡ (g x || (e && h x)))
    → list_any f xs ≡ (list_any g xs || (e && list_any h xs))
any-split f g h e [] same = sym (and-false e)
any-split f g h e (x ∷ xs) same = grind (arith, any-split f g h e xs same)

-- a store that counts at the next clock counts at this one, or is one of a hit here, above an end below here
at-clock : (a s l ended before here since hit : Bool) → (here ≡ true → ended ≡ since) → (a ≡ true → hit ≡ true)
    → ((a && s && l) && ended && (before || here))
    ≡ (((a && s && l) && ended && before) || (since && ((here && l) && (hit && (a && s)))))
at-clock a s l ended before here since hit h1 h2 = grind arith

-- agent a stores into the line in a hit of n
abbrev stores : Past → ℕ → ℕ → ℕ → Bool
stores p a line n = list_any (does_store p n a) (entries_on p line n)

-- the stores that count one clock on
stored-more : (p : Past) (a line n q : ℕ) → is_hit p a n ≡ true
    → is_stored_below p a line (n + 1) q ≡ (is_stored_below p a line n q || (is_ended p n q && stores p a line n))
unfolding is_stored_below entries_on is_store_on
stored-more p a line n q hit =
    let counts : ℕ → Done → Bool = λ m done.
    is_store_on a line done && is_ended p done.clock q && nat_lt done.clock m in
    let at_n : Done → Bool = λ done. nat_eq done.clock n && nat_eq (accessed_line done.access) line in
    let one : (done : Done) → counts (n + 1) done
    ≡ (counts n done || (is_ended p n q && (at_n done && does_store p n a done))) = λ done.
    ap (λ b. is_store_on a line done && is_ended p done.clock q && b) (nat_lt-more done.clock n)
    ∙ at-clock (nat_eq done.agent a) (not (is_load done.access)) (nat_eq (accessed_line done.access) line)
    (is_ended p done.clock q) (nat_lt done.clock n) (nat_eq done.clock n) (is_ended p n q) (is_hit p done.agent n)
    (λ e. ap (λ k. is_ended p k q) (eqb-true done.clock n e))
    (λ e. ap (λ k. is_hit p k n) (eqb-true done.agent a e) ∙ hit) in
    any-split (counts (n + 1)) (counts n) (λ done. at_n done && does_store p n a done) (is_ended p n q) p.log one
    ∙ ap (λ b. is_stored_below p a line n q || (is_ended p n q && b)) (sym (any-filter (does_store p n a) at_n p.log))

ready-grant : (p : Past) (a line n : ℕ) (o : Option Grant) → latest_grant p a line n ≡ o → is_ready p a line n ≡ true
    → is_some_and o (λ grant. is_ended p n grant.first) ≡ true
unfolding has_arrived
ready-grant p a line n o e ready = sym (ap (λ g. is_some_and g (λ grant. is_ended p n grant.first)) e) ∙ ready

dirty-storer : (p : Past) (a line n : ℕ) → is_hit p a n ≡ true → stores p a line n ≡ true
    → is_exclusive p a line n ≡ true → (o : Option Grant) → latest_grant p a line n ≡ o
    → is_some_and o (λ grant. is_ended p n grant.first) ≡ true → is_dirty_through p a line n ≡ true
unfolding is_dirty_through is_some_and
dirty-storer p a line n h1 h2 h3 o h4 h5 = grind (arith, stored-more)

dirty-same : (p : Past) (a line n : ℕ) → is_hit p a n ≡ true → stores p a line n ≡ false
    → is_dirty_through p a line n ≡ is_dirty_below p a line n
unfolding is_dirty_through is_dirty_below
dirty-same p a line n hit none = grind (arith, stored-more)

-- an agent with a hit is dirty on the line where it was, or stores
with-hit : (p : Past) (a line n : ℕ) → list_all (is_served_hit p line n) (entries_on p line n) ≡ true
    → is_hit p a n ≡ true → (is_dirty_below p a line n || stores p a line n) ≡ is_dirty_through p a line n
with-hit p a line n served t = grind (arith, storer, ready-grant, dirty-storer, dirty-same)

-- an agent is dirty on the line, the hits of n counted, where it was without them or stores in one
pub dirty-with-hits : (p : Past) (a line n : ℕ) → list_all (is_served_hit p line n) (entries_on p line n) ≡ true
    → (is_dirty_below p a line n || list_any (does_store p n a) (entries_on p line n)) ≡ is_dirty p a line n
dirty-with-hits p a line n served = grind (arith, unstored, dirty-none, with-hit, dirty-hit)
