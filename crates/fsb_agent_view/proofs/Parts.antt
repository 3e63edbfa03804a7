-- Lists without the first item that passes a test, and tests of each item.
use Rattle.std.proofs.Common.{◌+◌, ◌≤◌, ◌≡◌, Bool, true, false, cond, Some, List, [], ◌∷◌, length, refl, sym, ap, ◌∙◌}
use Rattle.std.proofs.Common.{inl, inr, arith}
use Rattle.std.specs.Prelude.{◌&&◌}
use Rattle.std.specs.List.{find, list_all}
use Rattle.std.proofs.lemmas.Bool.{cases_Bool}
use Rattle.std.proofs.lemmas.Grind.{common_steps}
use Rattle.fsb_linebuf.specs.Buffers.{without_first}

-- both tests pass
pub both : (a b : Bool) → a ≡ true → b ≡ true → (a && b) ≡ true
both true b p q = q
both false b p q = p

pub both_left : (a b : Bool) → (a && b) ≡ true → a ≡ true
both_left true b p = refl
both_left false b p = p

pub both_right : (a b : Bool) → (a && b) ≡ true → b ≡ true
both_right true b p = p
both_right false b p = absurd (let never : false ≡ true = p in (let h : ⊥ = cc in h))

-- a list without its first item that passes, item by item
pub without_first-cons : {X : Type 0} (test : X → Bool) (x : X) (xs : List X)
    → without_first test (x ∷ xs) ≡ cond (test x) xs (x ∷ without_first test xs)
without_first-cons test x xs =
    elim (cases_Bool (test x)) [
      | inl on ↦ rw on (grind (arith, common_steps))
      | inr off ↦ rw off (grind (arith, common_steps))
    ]

-- what passes in each item passes in each that is left
pub list_all-without : {X : Type 0} (p test : X → Bool) (xs : List X) → list_all p xs ≡ true
    → list_all p (without_first test xs) ≡ true
list_all-without p test [] all = refl
list_all-without p test (x ∷ xs) all =
    rw (without_first-cons test x xs)
    (elim (cases_Bool (test x)) [
      | inl on ↦ rw on (both_right (p x) (list_all p xs) all)
      | inr off ↦ rw off
          (both (p x) _ (both_left (p x) (list_all p xs) all)
          (list_all-without p test xs (both_right (p x) (list_all p xs) all)))
    ])

-- what passes in each item passes in the one that is found
pub list_all-found : {X : Type 0} (p test : X → Bool) (xs : List X) (x : X) → list_all p xs ≡ true
    → find test xs ≡ Some x → p x ≡ true
list_all-found p test [] x all found = absurd (let h : ⊥ = cc in h)
list_all-found p test (y ∷ ys) x all found =
    elim (cases_Bool (test y)) [
      | inl on ↦
          let same : Some y ≡ Some x = rw on at found in
          let is : y ≡ x = cc in
          ap p (sym is) ∙ both_left (p y) (list_all p ys) all
      | inr off ↦ list_all-found p test ys x (both_right (p y) (list_all p ys) all) (rw off at found)
    ]

-- one test passes in each item where two others do
pub list_all-from_two : {X : Type 0} (p q r : X → Bool) (xs : List X)
    → ((x : X) → p x ≡ true → q x ≡ true → r x ≡ true) → list_all p xs ≡ true → list_all q xs ≡ true
    → list_all r xs ≡ true
list_all-from_two p q r [] gives all_p all_q = refl
list_all-from_two p q r (x ∷ xs) gives all_p all_q =
    both (r x) (list_all r xs) (gives x (both_left (p x) (list_all p xs) all_p) (both_left (q x) (list_all q xs) all_q))
    (list_all-from_two p q r xs gives (both_right (p x) (list_all p xs) all_p) (both_right (q x) (list_all q xs) all_q))

-- one test passes in each item where another does
pub list_all-from : {X : Type 0} (p r : X → Bool) (xs : List X) → ((x : X) → p x ≡ true → r x ≡ true)
    → list_all p xs ≡ true → list_all r xs ≡ true
list_all-from p r xs gives all = list_all-from_two p p r xs (λ x h _. gives x h) all all

-- a list is no longer without an item
pub length-without : {X : Type 0} (test : X → Bool) (xs : List X) → length (without_first test xs) ≤ length xs
length-without test [] = omega arith
length-without test (x ∷ xs) =
    rw (without_first-cons test x xs)
    (elim (cases_Bool (test x)) [
      | inl on ↦ rw on (omega arith)
      | inr off ↦ rw off (omega (arith, length-without test xs))
    ])

-- and shorter by the one that is found
pub length-without-found : {X : Type 0} (test : X → Bool) (xs : List X) (x : X) → find test xs ≡ Some x
    → length (without_first test xs) + 1 ≡ length xs
length-without-found test [] x found = absurd (let h : ⊥ = cc in h)
length-without-found test (y ∷ ys) x found =
    rw (without_first-cons test y ys)
    (elim (cases_Bool (test y)) [
      | inl on ↦ rw on (omega arith)
      | inr off ↦ rw off (omega (arith, length-without-found test ys x (rw off at found)))
    ])
