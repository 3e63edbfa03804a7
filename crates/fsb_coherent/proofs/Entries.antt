-- Tests of the entries of a list.
use Rattle.fsb_coherent.proofs.Words
use Words.{ℕ, zero, suc, ◌≡◌, Bool, true, not, ◌&&◌, ◌||◌, List, [], ◌∷◌, slice_get, Some, refl, inl, inr, arith}
use Words.{and_parts, or_cases, or_right, filter, list_all, list_any}

-- an entry of the list passes the test
pub record IsThere {X : Type 0} (test : X → Bool) (xs : List X) : Type 0 where
  pub entry : X
  pub place : ℕ
  pub at : slice_get xs place ≡ Some entry
  pub passes : test entry ≡ true

pub any-there : {X : Type 0} (test : X → Bool) (xs : List X) → list_any test xs ≡ true → IsThere test xs
any-there test [] e = absurd (let no : ⊥ = cc in no)
any-there test (x ∷ xs) e =
    elim (or_cases (test x) (list_any test xs) e) [
      | inl here ↦ record { entry = x; place = 0; at = refl; passes = here }
      | inr later ↦
          let t = any-there test xs later in
          record { entry = t.entry; place = suc t.place; at = t.at; passes = t.passes }
    ]

pub any-from : {X : Type 0} (test : X → Bool) (xs : List X) (place : ℕ) (x : X) → slice_get xs place ≡ Some x
    → test x ≡ true → list_any test xs ≡ true
any-from test [] place x e passes = absurd (let no : ⊥ = cc in no)
any-from test (y ∷ ys) zero x e passes = grind arith
any-from test (y ∷ ys) (suc place) x e passes = or_right (test y) (list_any test ys) (any-from test ys place x e passes)

pub all-at : {X : Type 0} (test : X → Bool) (xs : List X) (place : ℕ) (x : X) → list_all test xs ≡ true
    → slice_get xs place ≡ Some x → test x ≡ true
all-at test [] place x all e = absurd (let no : ⊥ = cc in no)
all-at test (y ∷ ys) zero x all e = grind arith
all-at test (y ∷ ys) (suc place) x all e = all-at test ys place x (and_parts (test y) (list_all test ys) all).1 e

-- the entries that pass one test, looked at by another
pub any-kept : {X : Type 0} (keep test : X → Bool) (xs : List X)
    → list_any test (filter keep xs) ≡ list_any (λ x. keep x && test x) xs
any-kept keep test [] = refl
any-kept keep test (x ∷ xs) = grind (arith, any-kept keep test xs)

pub all-kept : {X : Type 0} (keep test : X → Bool) (xs : List X) → list_all (λ x. not (keep x) || test x) xs ≡ true
    → list_all test (filter keep xs) ≡ true
all-kept keep test [] all = refl
all-kept keep test (x ∷ xs) all = grind (arith, all-kept keep test xs)

pub all-of-kept : {X : Type 0} (keep test : X → Bool) (xs : List X) → list_all test (filter keep xs) ≡ true
    → list_all (λ x. not (keep x) || test x) xs ≡ true
all-of-kept keep test [] all = refl
all-of-kept keep test (x ∷ xs) all = grind (arith, all-of-kept keep test xs)
