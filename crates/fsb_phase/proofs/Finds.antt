-- The first element of a list that passes, by its place.
use Rattle.std.proofs.Common.{ℕ, zero, suc, ◌<◌, ◌≤◌, ◌≡◌, Bool, true, false, cond, Option, Some, None, List, [], ◌∷◌}
use Rattle.std.proofs.Common.{refl, sym, ap, ◌∙◌, inl, inr, arith, is_none, is_some, ◌⊎◌}
use Rattle.std.specs.List.{slice_get, find}
use Rattle.std.proofs.lemmas.Bool.{cases_Bool}

-- the element, if it passes
abbrev pub if_passes : {X : Type 0} → (X → Bool) → Option X → Option X
if_passes test None = None
if_passes test (Some x) = cond (test x) (Some x) None

pub find-place : {X : Type 0} (p : X → Bool) (xs : List X) (k : ℕ) (x : X) → slice_get xs k ≡ Some x
    → p x ≡ true → ((j : ℕ) (y : X) → j < k → slice_get xs j ≡ Some y → p y ≡ false) → find p xs ≡ Some x
find-place p [] k x e t f = absurd (let no : ⊥ = cc in no)
find-place p (z ∷ xs) zero x e t f =
    let same : z ≡ x = cc in
    rw (let here : p z ≡ true = ap p same ∙ t in here) e
find-place p (z ∷ xs) (suc k) x e t f =
    rw (f 0 z (omega arith) refl) (find-place p xs k x e t (λ j y l g. f (suc j) y (omega arith) g))

pub find-off : {X : Type 0} (p : X → Bool) (xs : List X)
    → ((j : ℕ) (y : X) → slice_get xs j ≡ Some y → p y ≡ false) → find p xs ≡ None
find-off p [] f = refl
find-off p (z ∷ xs) f = rw (f 0 z refl) (find-off p xs (λ j y g. f (suc j) y g))

pub none_is : {X : Type 0} (o : Option X) → is_some o ≡ false → is_none o ≡ true
none_is None e = refl
none_is (Some x) e = absurd (let no : ⊥ = cc in no)

-- what a search says: an element is found at a place, and none before it passes; or none passes
pub record Found {X : Type 0} (p : X → Bool) (xs : List X) : Type 0 where
  pub place : ℕ
  pub item : X
  pub at : slice_get xs place ≡ Some item
  pub passes : p item ≡ true
  pub before : (j : ℕ) (y : X) → j < place → slice_get xs j ≡ Some y → p y ≡ false

later-before : {X : Type 0} (p : X → Bool) (z : X) (xs : List X) (k : Found p xs) → p z ≡ false
    → (j : ℕ) (y : X) → j < suc k.place → slice_get (z ∷ xs) j ≡ Some y → p y ≡ false
later-before p z xs k f zero y l e = let same : z ≡ y = cc in sym (ap p same) ∙ f
later-before p z xs k f (suc j) y l e = k.before j y (omega arith) e

later : {X : Type 0} (p : X → Bool) (z : X) (xs : List X) → p z ≡ false → Found p xs → Found p (z ∷ xs)
later p z xs f k = record {
  place = suc k.place;
  item = k.item;
  at = k.at;
  passes = k.passes;
  before = later-before p z xs k f;
}

none-later : {X : Type 0} (p : X → Bool) (z : X) (xs : List X) → p z ≡ false
    → ((j : ℕ) (y : X) → slice_get xs j ≡ Some y → p y ≡ false) → (j : ℕ) (y : X)
    → slice_get (z ∷ xs) j ≡ Some y → p y ≡ false
none-later p z xs f g zero y e = let same : z ≡ y = cc in sym (ap p same) ∙ f
none-later p z xs f g (suc j) y e = g j y e

pub find-cases : {X : Type 0} (p : X → Bool) (xs : List X)
    → Found p xs ⊎ ((j : ℕ) (y : X) → slice_get xs j ≡ Some y → p y ≡ false)
find-cases p [] = inr (λ j y e. absurd (let no : ⊥ = cc in no))
find-cases p (z ∷ xs) =
    elim (cases_Bool (p z)) [
      | inl t ↦ inl (record { place = 0; item = z; at = refl; passes = t; before = λ j y l e. absurd (omega arith) })
      | inr f ↦ elim (find-cases p xs) [
        | inl k ↦ inl (later p z xs f k)
        | inr g ↦ inr (none-later p z xs f g)
      ]
    ]

-- none passes where none is found
pub found_none : {X : Type 0} (p : X → Bool) (xs : List X) → find p xs ≡ None
    → (j : ℕ) (y : X) → slice_get xs j ≡ Some y → p y ≡ false
found_none p xs e =
    elim (find-cases p xs) [
      | inl k ↦ absurd (let some = find-place p xs k.place k.item k.at k.passes k.before in let no : ⊥ = cc in no)
      | inr f ↦ f
    ]

-- where all from a place on pass, and none before
pub find-from : {X : Type 0} (p : X → Bool) (xs : List X) (k : ℕ)
    → ((j : ℕ) (y : X) → j < k → slice_get xs j ≡ Some y → p y ≡ false)
    → ((j : ℕ) (y : X) → k ≤ j → slice_get xs j ≡ Some y → p y ≡ true) → find p xs ≡ slice_get xs k
find-from p [] k f g = refl
find-from p (z ∷ xs) zero f g = rw (g 0 z (omega arith) refl) refl
find-from p (z ∷ xs) (suc k) f g =
    rw (f 0 z (omega arith) refl) (find-from p xs k (λ j y l e. f (suc j) y (omega arith) e)
    (λ j y l e. g (suc j) y (omega arith) e))

-- where one place alone may pass, and passes or does not
pub find-at : {X : Type 0} (p : X → Bool) (xs : List X) (k : ℕ) (b : Bool)
    → ((y : X) → slice_get xs k ≡ Some y → p y ≡ b)
    → ((j : ℕ) (y : X) → (j ≡ k → ⊥) → slice_get xs j ≡ Some y → p y ≡ false)
    → find p xs ≡ cond b (slice_get xs k) None
find-at p [] k true f g = refl
find-at p [] k false f g = refl
find-at p (z ∷ xs) zero b f g =
    rw (f z refl, find-off p xs (λ j y e. g (suc j) y (λ q. omega arith) e)) refl
find-at p (z ∷ xs) (suc k) b f g =
    rw (g 0 z (λ q. omega arith) refl) (find-at p xs k b f (λ j y other e. g (suc j) y (λ q. other (omega arith)) e))

-- where the first alone may pass
pub find-first : {X : Type 0} (p : X → Bool) (xs : List X)
    → ((j : ℕ) (y : X) → 0 < j → slice_get xs j ≡ Some y → p y ≡ false) → find p xs ≡ if_passes p (slice_get xs 0)
find-first p [] f = refl
find-first p (z ∷ xs) f = rw (find-off p xs (λ j y g. f (suc j) y (omega arith) g)) refl

-- two tests that each element passes alike
pub find_same : {X : Type 0} (t u : X → Bool) (xs : List X)
    → ((j : ℕ) (y : X) → slice_get xs j ≡ Some y → t y ≡ u y) → find t xs ≡ find u xs
find_same t u [] f = refl
find_same t u (z ∷ xs) f = rw (f 0 z refl, find_same t u xs (λ j y e. f (suc j) y e)) refl
