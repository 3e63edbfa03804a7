-- What is left of a list without the first element that passes a test.
use Rattle.std.proofs.Common.{ℕ, zero, suc, ◌+◌, ◌≡◌, Bool, true, false, ◌&&◌, ◌||◌, take, drop, not, nat_eq, List, []}
use Rattle.std.proofs.Common.{◌∷◌, ◌++◌, refl, sym, ap, ◌∙◌, inl, inr, add-one, arith}
use Rattle.std.specs.List.{after_first, before_first, list_any, position_or_len}
use Rattle.std.proofs.lemmas.Bool.{and_parts, cases_Bool, eqb-true}
use Rattle.fsb_count.specs.Clocks.{all_where}
use Rattle.fsb_count.proofs.Interface.{all_where-failed, all_where-passed, any_where-off}
use Rattle.fsb_bridge.proofs.Matched.{Matched, list_any-all_where}

abbrev pub rest : {X : Type 0} → (X → Bool) → List X → List X
rest p xs = before_first p xs ++ after_first p xs

pub rest_found : {X : Type 0} (p : X → Bool) (x : X) (xs : List X) → p x ≡ true → rest p (x ∷ xs) ≡ xs
rest_found p x xs e = rw e refl

one_on : {X : Type 0} (m : ℕ) (x : X) (xs : List X)
    → take (1 + m) (x ∷ xs) ++ drop (1 + m + 1) (x ∷ xs) ≡ x ∷ (take m xs ++ drop (m + 1) xs)
one_on m x xs =
    let e : 1 + m ≡ suc m = omega arith in
    let d : 1 + m + 1 ≡ suc (m + 1) = omega arith in
    ap (λ k. take k (x ∷ xs) ++ drop (1 + m + 1) (x ∷ xs)) e ∙ ap (λ k. take (suc m) (x ∷ xs) ++ drop k (x ∷ xs)) d

pub rest_more : {X : Type 0} (p : X → Bool) (x : X) (xs : List X) → p x ≡ false → rest p (x ∷ xs) ≡ x ∷ rest p xs
rest_more p x xs e = rw e (one_on (position_or_len p xs) x xs)

-- what is left of lists that are matched, after tests that give the same for related elements
pub rest-Matched : {X Y : Type 0} (R : X → Y → Type 0) (p : X → Bool) (q : Y → Bool) (xs : List X) (ys : List Y)
    → ((x : X) (y : Y) → R x y → p x ≡ q y) → Matched R xs ys → Matched R (rest p xs) (rest q ys)
rest-Matched R p q [] [] f h = tt
rest-Matched R p q [] (y ∷ ys) f h = absurd h
rest-Matched R p q (x ∷ xs) [] f h = absurd h
rest-Matched R p q (x ∷ xs) (y ∷ ys) f h =
    elim (cases_Bool (p x)) [
      | inl t ↦ let u : q y ≡ true = sym (f x y h.0) ∙ t in rw (rest_found p x xs t, rest_found q y ys u) h.1
      | inr t ↦
          let u : q y ≡ false = sym (f x y h.0) ∙ t in
          rw (rest_more p x xs t, rest_more q y ys u) (h.0, rest-Matched R p q xs ys f h.1)
    ]

-- one more element at the end that fails
rest_failed : (q : ℕ → Bool) (ys : List ℕ) (z : ℕ) → q z ≡ false → rest q (ys ++ z ∷ []) ≡ rest q ys ++ z ∷ []
rest_failed q [] z f = rest_more q z [] f
rest_failed q (y ∷ ys) z f =
    elim (cases_Bool (q y)) [
      | inl t ↦ rw (rest_found q y (ys ++ z ∷ []) t, rest_found q y ys t) refl
      | inr u ↦ rw (rest_more q y (ys ++ z ∷ []) u, rest_more q y ys u) (ap (λ xs. y ∷ xs) (rest_failed q ys z f))
    ]

or_parts : (a b : Bool) → (a || b) ≡ false → (a ≡ false) × (b ≡ false)
or_parts true b e = absurd (let no : ⊥ = cc in no)
or_parts false b e = (refl, e)

-- one that is the first to pass
rest_passed : (q : ℕ → Bool) (ys : List ℕ) (z : ℕ) → list_any q ys ≡ false → q z ≡ true
    → rest q (ys ++ z ∷ []) ≡ rest q ys
rest_passed q [] z e t = rest_found q z [] t
rest_passed q (y ∷ ys) z e t =
    let parts = or_parts (q y) (list_any q ys) e in
    rw (rest_more q y (ys ++ z ∷ []) parts.0, rest_more q y ys parts.0)
    (ap (λ xs. y ∷ xs) (rest_passed q ys z parts.1 t))

passed : (p : ℕ → Bool) (n : ℕ) → p n ≡ true → all_where p (suc n) ≡ all_where p n ++ n ∷ []
passed p n e = rw add-one at (all_where-passed p n e)

failed : (p : ℕ → Bool) (n : ℕ) → p n ≡ false → all_where p (suc n) ≡ all_where p n
failed p n e = rw add-one at (all_where-failed p n e)

none_before : (p q : ℕ → Bool) (n i : ℕ) → ((k : ℕ) → p k ≡ true → q k ≡ nat_eq k i) → nat_eq n i ≡ true
    → list_any q (all_where p n) ≡ false
none_before p q n i own e =
    list_any-all_where p q n ∙ any_where-off (λ k. q k && p k) n (λ k l. elim (cases_Bool (q k && p k)) [
      | inl t ↦
          let parts = and_parts (q k) (p k) t in
          let same : k ≡ i = eqb-true k i (sym (own k parts.1) ∙ parts.0) in
          let here : n ≡ i = eqb-true n i e in absurd (omega arith)
      | inr f ↦ f
    ])

-- the clocks that pass, without the one of them that another test finds
pub rest-all_where : (p q : ℕ → Bool) (n i : ℕ) → ((k : ℕ) → p k ≡ true → q k ≡ nat_eq k i)
    → rest q (all_where p n) ≡ all_where (λ k. p k && not (nat_eq k i)) n
unfolding all_where
rest-all_where p q zero i own = refl
rest-all_where p q (suc n) i own =
    let others : ℕ → Bool = λ k. p k && not (nat_eq k i) in
    let ih : rest q (all_where p n) ≡ all_where others n = rest-all_where p q n i own in
    elim (cases_Bool (p n)) [
      | inl t ↦ elim (cases_Bool (nat_eq n i)) [
        | inl e ↦
            let off : others n ≡ false = rw (t, e) refl in
            ap (rest q) (passed p n t)
            ∙ rest_passed q (all_where p n) n (none_before p q n i own e) (own n t ∙ e) ∙ ih
            ∙ sym (failed others n off)
        | inr e ↦
            let on : others n ≡ true = rw (t, e) refl in
            ap (rest q) (passed p n t) ∙ rest_failed q (all_where p n) n (own n t ∙ e)
            ∙ ap (λ xs. xs ++ n ∷ []) ih ∙ sym (passed others n on)
      ]
      | inr f ↦
          let off : others n ≡ false = rw f refl in ap (rest q) (failed p n f) ∙ ih ∙ sym (failed others n off)
    ]
