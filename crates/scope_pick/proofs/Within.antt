-- What is asked of one scope is answered by the variables of the scope.
use Rattle.std.proofs.Common.{◌≡◌, ◌∙◌, ℕ, Bool, true, false, nat_eq, cond, ◌&&◌, ◌||◌, List, [], ◌∷◌, Option, Some, None, refl, ap, arith, rules, BTreeMap, Vec, Global}
use Rattle.std.proofs.lemmas.Bool.{eqb-true}
use Rattle.std.proofs.lemmas.List.Elements.{filter_agree}
use Rattle.std.specs.List.{find, filter, list_any, list_all}
use Rattle.scope_pick.specs.declared.wires.Named.{Named}
use Rattle.scope_pick.specs.Groups.{in_scope, group_at, AreGroups}
use Rattle.scope_pick.specs.Scopes.{lines, is_for, exact_in, like_in, first_in, is_rival, is_ambiguous, found_in, is_settled, is_whole, is_head, qualifies, qualified}

-- the test passes only where the other one does
abbrev pub PassesWith : {X : Type 0} → (X → Bool) → (X → Bool) → Type 0
PassesWith {X} p g = (x : X) → g x ≡ false → p x ≡ false

-- a search for what passes the other test too
pub find-filtered : {X : Type 0} (p g : X → Bool) → PassesWith p g → (xs : List X)
    → find p (filter g xs) ≡ find p xs
find-filtered p g h [] = refl
find-filtered p g h (x ∷ xs) = at (find-filtered p g h xs) (g x) refl
  where
    at : find p (filter g xs) ≡ find p xs → (b : Bool) → g x ≡ b → find p (filter g (x ∷ xs)) ≡ find p (x ∷ xs)
    at more true same = rw same (ap (cond (p x) (Some x)) more)
    at more false other = rw other (rw (h x other) more)

-- whether one is there
pub any-filtered : {X : Type 0} (p g : X → Bool) → PassesWith p g → (xs : List X)
    → list_any p (filter g xs) ≡ list_any p xs
any-filtered p g h [] = refl
any-filtered p g h (x ∷ xs) = at (any-filtered p g h xs) (g x) refl
  where
    at : list_any p (filter g xs) ≡ list_any p xs → (b : Bool) → g x ≡ b
        → list_any p (filter g (x ∷ xs)) ≡ list_any p (x ∷ xs)
    at more true same = rw same (ap (λ o. p x || o) more)
    at more false other = rw other (rw (h x other) more)

-- the test passes only within the scope
abbrev pub PassesWithin : (Named → Bool) → ℕ → Type 0
PassesWithin p scope = (e : Named) → nat_eq e.scope scope ≡ false → p e ≡ false

-- a search for what stands in the scope
pub find-within : (p : Named → Bool) (scope : ℕ) → PassesWithin p scope → (ns : List Named)
    → find p (in_scope scope ns) ≡ find p ns
find-within p scope h ns = find-filtered p (λ (e : Named). nat_eq e.scope scope) h ns

-- whether one stands there
pub any-within : (p : Named → Bool) (scope : ℕ) → PassesWithin p scope → (ns : List Named)
    → list_any p (in_scope scope ns) ≡ list_any p ns
any-within p scope h ns = any-filtered p (λ (e : Named). nat_eq e.scope scope) h ns

-- what a search finds passes
pub find-passes : {X : Type 0} (p : X → Bool) (xs : List X) (x : X) → find p xs ≡ Some x → p x ≡ true
find-passes p [] x is = search rules
find-passes p (y ∷ ys) x is = at (find-passes p ys x) (p y) refl is
  where
    at : (find p ys ≡ Some x → p x ≡ true) → (b : Bool) → p y ≡ b → cond b (Some y) (find p ys) ≡ Some x
        → p x ≡ true
    at more true passes same = grind (arith, same, passes)
    at more false fails same = more same

-- tests that agree at each line
pub all-agree : (p q : ℕ → Bool) → ((n : ℕ) → p n ≡ q n) → (ns : List ℕ) → list_all p ns ≡ list_all q ns
all-agree p q h [] = refl
all-agree p q h (n ∷ ns) = rw (h n, all-agree p q h ns) refl

-- the exact name, or else the other
abbrev best : Option Named → Option Named → Option Named
best exact like = elim exact [ Some e ↦ Some e | None ↦ like ]

-- the variable that has the best name for a line
pub first-within : (ns : List Named) (scope line : ℕ)
    → first_in (in_scope scope ns) scope line ≡ first_in ns scope line
unfolding first_in exact_in like_in is_for
first-within ns scope line =
    ap (λ o. best o (like_in (in_scope scope ns) scope line))
    (find-within (λ e. is_for scope line e && e.exact) scope (λ e other. rw other refl) ns)
    ∙ ap (best (exact_in ns scope line))
    (find-within (is_for scope line) scope (λ e other. rw other refl) ns)

-- it stands in the scope
first-stands : (ns : List Named) (scope line : ℕ) (c : Named) → first_in ns scope line ≡ Some c
    → nat_eq c.scope scope ≡ true
unfolding first_in exact_in like_in is_for
first-stands ns scope line c is = at (exact_in ns scope line) refl is
  where
    at : (o : Option Named) → exact_in ns scope line ≡ o
        → elim o [ Some e ↦ Some e | None ↦ like_in ns scope line ] ≡ Some c → nat_eq c.scope scope ≡ true
    at None none like =
        let passes : is_for scope line c ≡ true = find-passes (is_for scope line) ns c like in
        grind (arith, passes)
    at (Some d) some same =
        let passes : (is_for scope line c && c.exact) ≡ true =
        find-passes (λ e. is_for scope line e && e.exact) ns c (some ∙ same) in
        grind (arith, passes)

-- whether another wire has as good a name
rival-within : (ns : List Named) (scope : ℕ) (c : Named) → nat_eq c.scope scope ≡ true
    → list_any (is_rival c) (in_scope scope ns) ≡ list_any (is_rival c) ns
unfolding is_rival is_for
rival-within ns scope c stands =
    any-within (is_rival c) scope (λ e other. rw (eqb-true c.scope scope stands) (rw other refl)) ns

-- another wire has as good a name as this one, if there is one
abbrev has_rival : List Named → Option Named → Bool
has_rival ns o = elim o [ None ↦ false | Some c ↦ list_any (is_rival c) ns ]

-- whether the line is ambiguous
pub ambiguous-within : (ns : List Named) (scope line : ℕ)
    → is_ambiguous (in_scope scope ns) scope line ≡ is_ambiguous ns scope line
unfolding is_ambiguous
ambiguous-within ns scope line =
    ap (has_rival (in_scope scope ns)) (first-within ns scope line) ∙ at (first_in ns scope line) refl
  where
    at : (o : Option Named) → first_in ns scope line ≡ o → has_rival (in_scope scope ns) o ≡ has_rival ns o
    at None is = refl
    at (Some c) is = rival-within ns scope c (first-stands ns scope line c is)

-- the line as it is found
pub found-within : (ns : List Named) (scope line : ℕ)
    → found_in (in_scope scope ns) scope line ≡ found_in ns scope line
unfolding found_in
found-within ns scope line = rw (ambiguous-within ns scope line, first-within ns scope line) refl

-- whether a line is settled
settled-within : (ns : List Named) (settled : List ℕ) (scope line : ℕ)
    → is_settled (in_scope scope ns) settled scope line ≡ is_settled ns settled scope line
unfolding is_settled
settled-within ns settled scope line = rw (ambiguous-within ns scope line, first-within ns scope line) refl

-- whether every line is
pub whole-within : (ns : List Named) (settled : List ℕ) (scope : ℕ)
    → is_whole (in_scope scope ns) settled scope ≡ is_whole ns settled scope
unfolding is_whole
whole-within ns settled scope =
    all-agree (is_settled (in_scope scope ns) settled scope) (is_settled ns settled scope)
    (settled-within ns settled scope) lines

-- the variable is this one, if there is one
abbrev is_at : Named → Option Named → Bool
is_at e o = elim o [ None ↦ false | Some f ↦ nat_eq f.index e.index ]

-- whether it is the first of its scope
pub head-within : (ns : List Named) (e : Named) → is_head (in_scope e.scope ns) e ≡ is_head ns e
unfolding is_head
head-within ns e = ap (is_at e) (find-within (λ f. nat_eq f.scope e.scope) e.scope (λ f other. other) ns)

-- the scopes that qualify
pub qualified-within : (groups : BTreeMap ℕ (Vec Named Global)) (ns : List Named) (settled : List ℕ)
    → AreGroups groups ns
    → filter (λ (e : Named). qualifies (group_at groups e.scope) settled e) ns ≡ qualified ns settled
unfolding qualified qualifies
qualified-within groups ns settled are =
    filter_agree _ _
    (λ e. rw (are e.scope) (rw (head-within ns e, whole-within ns settled e.scope) refl)) ns
