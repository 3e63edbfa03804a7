-- Elements of lists that were put behind one another, written at a place, or mapped.
use Rattle.std.proofs.Common.{◌≡◌, ◌<◌, ◌≤◌, ◌+◌, ◌-◌, ℕ, zero, suc, Bool, true, false, cond, List, [], ◌∷◌, ◌++◌}
use Rattle.std.proofs.Common.{length, map, slice_get, refl, sym, ap, ◌∙◌, arith}
use Rattle.std.specs.List.{range_with_len}
use Rattle.std.proofs.lemmas.List.{map-append}
use Rattle.fsb_count.specs.Clocks.{all_where}

-- elements behind those of xs
pub slice_get-behind : {X : Type 0} (xs ys : List X) (i : ℕ) → length xs ≤ i
    → slice_get (xs ++ ys) i ≡ slice_get ys (i - length xs)
slice_get-behind [] ys i h = let e : i ≡ i - 0 = omega arith in ap (slice_get ys) e
slice_get-behind (x ∷ xs) ys zero h = absurd (omega (arith, h))
slice_get-behind (x ∷ xs) ys (suc i) h =
    let e : suc i - length (x ∷ xs) ≡ i - length xs = omega arith in
    rw e (slice_get-behind xs ys i (omega (arith, h)))

-- two functions that agree on a range of numbers
pub map-same : {X : Type 0} (f g : ℕ → X) (a n : ℕ) → ((c : ℕ) → a ≤ c → c < a + n → f c ≡ g c)
    → map f (range_with_len a n) ≡ map g (range_with_len a n)
map-same f g a zero h = refl
map-same f g a (suc n) h =
    rw (
      h a (omega arith) (omega arith),
      map-same f g (a + 1) n (λ c l u. h c (omega (arith, l)) (omega (arith, u))),
    ) refl

-- the same of one number that passes or not
one-same : {X : Type 0} (f g : ℕ → X) (n : ℕ) (b : Bool) → f n ≡ g n
    → map f (cond b (n ∷ []) []) ≡ map g (cond b (n ∷ []) [])
one-same f g n true e = ap (λ x. x ∷ []) e
one-same f g n false e = refl

-- two tests and two functions that agree below n
pub map_where-same : {X : Type 0} (f g : ℕ → X) (p q : ℕ → Bool) (n : ℕ) → ((j : ℕ) → j < n → p j ≡ q j)
    → ((j : ℕ) → j < n → f j ≡ g j) → map f (all_where p n) ≡ map g (all_where q n)
unfolding all_where
map_where-same f g p q zero tests values = refl
map_where-same f g p q (suc n) tests values =
    let before = map_where-same f g p q n (λ j l. tests j (omega (arith, l))) (λ j l. values j (omega (arith, l))) in
    map-append f (all_where p n) (cond (p n) (n ∷ []) [])
    ∙ ap (λ xs. xs ++ map f (cond (p n) (n ∷ []) [])) before
    ∙ ap (λ b. map g (all_where q n) ++ map f (cond b (n ∷ []) [])) (tests n (omega arith))
    ∙ ap (λ ys. map g (all_where q n) ++ ys) (one-same f g n (q n) (values n (omega arith)))
    ∙ sym (map-append g (all_where q n) (cond (q n) (n ∷ []) []))
