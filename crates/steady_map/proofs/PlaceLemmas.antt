-- The places of entries, and what an insertion does to them.
use Rattle.std.proofs.Common.{◌≡◌, ℕ, suc, ◌<◌, Bool, true, false, cond, is_some, List, [], ◌∷◌, ◌++◌, length}
use Rattle.std.proofs.Common.{Option, Some, None, option_map, unwrap_or, get_or, set, nat_eq, nat_cmp, refl, sym, ap}
use Rattle.std.proofs.Common.{subst, ◌∙◌, arith}
use Rattle.std.proofs.lemmas.Bool.{false≢true, eqb-true}
use Rattle.std.proofs.lemmas.Bool.Decides.{nat_tests}
use Rattle.std.specs.Prelude.{◌==◌}
use Rattle.std.specs.BTreeMap.{is_at}
use Rattle.std.specs.Map.{lookup}
use Rattle.indexmap.specs.IndexMap.{insert_entry}
use Rattle.steady_map.specs.Places.{Places, first_of, place_by, place_in, PlacesKept}

-- a table that has got a key
pub added_to_table :
    (old new rest : List (ℕ × ℕ)) (key place : ℕ)
    → ((other : ℕ) → lookup (nat_eq other) new ≡ cond (nat_eq key other) (Some place) (lookup (nat_eq other) old))
    → (other : ℕ) → place_by (new, rest) other ≡ cond (nat_eq key other) (Some place) (place_by (old, rest) other)
added_to_table old new rest key place updates other = let at = updates other in grind (arith, nat_tests)

-- a tree that has got a key, which the table does not have
pub added_to_rest :
    (table old new : List (ℕ × ℕ)) (key place : ℕ)
    → ((other : ℕ) → lookup (is_at (nat_cmp other)) new
    ≡ cond (is_at (nat_cmp key) other) (Some place) (lookup (is_at (nat_cmp other)) old))
    → place_by (table, old) key ≡ None
    → (other : ℕ) → place_by (table, new) other ≡ cond (nat_eq key other) (Some place) (place_by (table, old) other)
added_to_rest table old new key place updates absent other = let at = updates other in grind (arith, nat_tests)

-- what an option has
some_same : {X : Type 0} (a b : X) → Some a ≡ Some b → a ≡ b
some_same a b h = ap (λ o. unwrap_or o a) h

none_some : {X P : Type 0} (x : X) → ◌≡◌ {A = Option X} None (Some x) → P
none_some x h = absurd (false≢true (ap is_some h))

module _ {V : Type 0} where
  -- an entry stands at the place of its key
  abbrev IsAt : List (ℕ × V) → ℕ → ℕ → Type 0
  IsAt es key place =
      (value : V) × ((d : ℕ × V) → get_or es place d ≡ (key, value)) × (lookup (nat_eq key) es ≡ Some value)
      × (place < length es)

  at_place : (es : List (ℕ × V)) (key place : ℕ) → place_in es key ≡ Some place → IsAt es key place
  at_place [] key place h = none_some place h
  at_place (e ∷ es) key place h = by (key == e.0) (place_in es key) refl refl (λ i t. at_place es key i t)
    where
      by : (b : Bool) (o : Option ℕ) → (key == e.0) ≡ b → place_in es key ≡ o
          → ((i : ℕ) → place_in es key ≡ Some i → IsAt es key i) → IsAt (e ∷ es) key place
      by true o t k rest =
          let is : 0 ≡ place = some_same 0 place (rw t at h) in
          let same : key ≡ e.0 = eqb-true key e.0 t in
          subst (λ p. IsAt (e ∷ es) key p) is (e.1, (λ d j. (sym same j, e.1)), rw t refl, omega arith)
      by false None t k rest = none_some place (rw (t, k) at h)
      by false (Some i) t k rest =
          let found = rest i k in
          let is : suc i ≡ place = some_same (suc i) place (rw (t, k) at h) in
          subst (λ p. IsAt (e ∷ es) key p) is (found.0, found.1, rw t found.2, omega (arith, found.3))

  pub place_within : (es : List (ℕ × V)) (key place : ℕ) → place_in es key ≡ Some place → place < length es
  place_within es key place h = (at_place es key place h).3

  pub value_there :
      (es : List (ℕ × V)) (key place : ℕ) (e : ℕ × V) → place_in es key ≡ Some place
      → e ≡ get_or es place e → Some e.1 ≡ lookup (nat_eq key) es
  value_there es key place e h is =
      let found = at_place es key place h in
      let same : e ≡ (key, found.0) = is ∙ found.1 e in
      (λ j. Some (same j).1) ∙ sym found.2

  pub no_place : (es : List (ℕ × V)) (key : ℕ) → place_in es key ≡ None → lookup (nat_eq key) es ≡ None
  no_place [] key h = refl
  no_place (e ∷ es) key h = by (key == e.0) (place_in es key) refl refl (no_place es key)
    where
      by : (b : Bool) (o : Option ℕ) → (key == e.0) ≡ b → place_in es key ≡ o
          → (place_in es key ≡ None → lookup (nat_eq key) es ≡ None) → lookup (nat_eq key) (e ∷ es) ≡ None
      by true o t k rest = none_some 0 (sym (rw t at h))
      by false None t k rest = rw t (rest k)
      by false (Some i) t k rest = none_some (suc i) (sym (rw (t, k) at h))

  pub none_there : (es : List (ℕ × V)) (key : ℕ) → lookup (nat_eq key) es ≡ None → place_in es key ≡ None
  none_there [] key h = refl
  none_there (e ∷ es) key h = by (key == e.0) refl (none_there es key)
    where
      by : (b : Bool) → (key == e.0) ≡ b
          → (lookup (nat_eq key) es ≡ None → place_in es key ≡ None) → place_in (e ∷ es) key ≡ None
      by true t rest = none_some e.1 (sym (rw t at h))
      by false t rest = rw t (ap (option_map (λ i. suc i)) (rest (rw t at h)))

  -- an insertion keeps the places that there are, and a new key has the one behind them
  pub placed :
      (es : List (ℕ × V)) (key : ℕ) (value : V) (other : ℕ)
      → place_in (insert_entry nat_eq es key value) other
      ≡ first_of (place_in es other) (cond (nat_eq key other) (Some (length es)) None)
  placed [] key value other = grind (arith, nat_tests)
  placed (e ∷ es) key value other = let rest = placed es key value other in grind (arith, nat_tests)

  pub updated :
      (es : List (ℕ × V)) (key : ℕ) (value : V) (other : ℕ)
      → lookup (nat_eq other) (insert_entry nat_eq es key value)
      ≡ cond (nat_eq key other) (Some value) (lookup (nat_eq other) es)
  updated [] key value other = grind (arith, nat_tests)
  updated (e ∷ es) key value other = let rest = updated es key value other in grind (arith, nat_tests)

  -- a new key goes last
  pub inserted_last :
      (es : List (ℕ × V)) (key : ℕ) (value : V) → lookup (nat_eq key) es ≡ None
      → insert_entry nat_eq es key value ≡ es ++ (key, value) ∷ []
  inserted_last [] key value h = refl
  inserted_last (e ∷ es) key value h = by (key == e.0) refl (inserted_last es key value)
    where
      by : (b : Bool) → (key == e.0) ≡ b
          → (lookup (nat_eq key) es ≡ None → insert_entry nat_eq es key value ≡ es ++ (key, value) ∷ [])
          → insert_entry nat_eq (e ∷ es) key value ≡ (e ∷ es) ++ (key, value) ∷ []
      by true t rest = none_some e.1 (sym (rw t at h))
      by false t rest = rw t (ap (λ l. e ∷ l) (rest (rw t at h)))

  -- a key that is there keeps its place
  set_there :
      (es : List (ℕ × V)) (key place : ℕ) (e : ℕ × V) (value : V) → place_in es key ≡ Some place
      → e ≡ get_or es place e → set es place (e.0, value) ≡ insert_entry nat_eq es key value
  set_there [] key place e value h is = none_some place h
  set_there (x ∷ xs) key place e value h is =
      by (key == x.0) (place_in xs key) refl refl (λ i. set_there xs key i e value)
    where
      by : (b : Bool) (o : Option ℕ) → (key == x.0) ≡ b → place_in xs key ≡ o
          → ((i : ℕ) → place_in xs key ≡ Some i → e ≡ get_or xs i e
          → set xs i (e.0, value) ≡ insert_entry nat_eq xs key value)
          → set (x ∷ xs) place (e.0, value) ≡ insert_entry nat_eq (x ∷ xs) key value
      by true o t k rest =
          subst (λ p. e ≡ get_or (x ∷ xs) p e → set (x ∷ xs) p (e.0, value) ≡ insert_entry nat_eq (x ∷ xs) key value)
          (some_same 0 place (rw t at h)) (λ same. rw t (λ j. ((same j).0, value) ∷ xs)) is
      by false None t k rest = none_some place (rw (t, k) at h)
      by false (Some i) t k rest =
          subst (λ p. e ≡ get_or (x ∷ xs) p e → set (x ∷ xs) p (e.0, value) ≡ insert_entry nat_eq (x ∷ xs) key value)
          (some_same (suc i) place (rw (t, k) at h)) (λ same. rw t (ap (λ l. x ∷ l) (rest i k same))) is

  pub replaced :
      (es : List (ℕ × V)) (key place : ℕ) (e : ℕ × V) (new value : V) → place_in es key ≡ Some place
      → e ≡ get_or es place e → new ≡ value → set es place (e.0, new) ≡ insert_entry nat_eq es key value
  replaced es key place e new value h is same =
      (λ j. set es place (e.0, same j)) ∙ set_there es key place e value h is

  -- the places of a map whose key got another value
  pub kept_replaced :
      (places : Places) (es : List (ℕ × V)) (key place : ℕ) (value : V) → PlacesKept places es
      → place_in es key ≡ Some place → PlacesKept places (insert_entry nat_eq es key value)
  kept_replaced places es key place value kept there = record {
    same = λ other.
        let at = kept.same other in
        let now = placed es key value other in
        at ∙ sym (now ∙ by other (nat_eq key other) (place_in es other) refl refl);
  }
    where
      by : (other : ℕ) (b : Bool) (o : Option ℕ) → nat_eq key other ≡ b → place_in es other ≡ o
          → first_of (place_in es other) (cond (nat_eq key other) (Some (length es)) None) ≡ place_in es other
      by other true None t k =
          none_some place (sym k ∙ ap (place_in es) (sym (eqb-true key other t)) ∙ there)
      by other true (Some i) t k = rw k refl
      by other false None t k = rw (t, k) refl
      by other false (Some i) t k = rw k refl

  -- the places of a map that has got one more key
  pub kept_added :
      (old new : Places) (es : List (ℕ × V)) (key : ℕ) (value : V) → PlacesKept old es
      → lookup (nat_eq key) es ≡ None
      → ((other : ℕ) → place_by new other ≡ cond (nat_eq key other) (Some (length es)) (place_by old other))
      → PlacesKept new (insert_entry nat_eq es key value)
  kept_added old new es key value kept absent added = record {
    same = λ other.
        let none = none_there es key absent in
        let more = added other in
        let at = kept.same other in
        let now = placed es key value other in
        grind (arith, nat_tests);
  }
