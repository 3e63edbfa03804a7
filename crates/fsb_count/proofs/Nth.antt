-- The k-th clock that passes.
use Rattle.std.proofs.Common.{ℕ, zero, suc, ◌+◌, ◌<◌, ◌≤◌, ◌≡◌, Bool, true, false, cond, Some, None, List, [], ◌∷◌}
use Rattle.std.proofs.Common.{◌++◌, length, get_or, sym, refl, ap, ◌∙◌, ◌⊎◌, inl, inr, arith, add-one, subst}
use Rattle.std.specs.List.{slice_get}
use Rattle.std.proofs.lemmas.Bool.{cases_Bool, cases_order}
use Rattle.std.proofs.lemmas.List.{length-append, append-nil}
use Rattle.std.proofs.lemmas.Option.{slice_get_past, slice_get-get_or}
use Rattle.fsb_count.specs.Clocks.{count_where, all_where, nth_where, AgreeBelow}
use Rattle.fsb_count.proofs.Count.{count_where-same, count_where-mono}

-- an element stays where it is when the list grows
pub slice_get-grown : {X : Type 0} (xs ys : List X) (k : ℕ) (x : X) → slice_get xs k ≡ Some x
    → slice_get (xs ++ ys) k ≡ Some x
slice_get-grown [] ys k x e = absurd (let h : ⊥ = cc in h)
slice_get-grown (y ∷ xs) ys zero x e = e
slice_get-grown (y ∷ xs) ys (suc k) x e = slice_get-grown xs ys k x e

-- an element of a list with one more at its end is of the list, or is that one
pub slice_get-push : {X : Type 0} (xs : List X) (y : X) (k : ℕ) (x : X) → slice_get (xs ++ y ∷ []) k ≡ Some x
    → (slice_get xs k ≡ Some x) ⊎ ((k ≡ length xs) × (y ≡ x))
slice_get-push [] y zero x e = inr (refl, cc)
slice_get-push [] y (suc k) x e = absurd (let h : ⊥ = cc in h)
slice_get-push (z ∷ xs) y zero x e = inl e
slice_get-push (z ∷ xs) y (suc k) x e =
    elim (slice_get-push xs y k x e) [ inl old ↦ inl old | inr new ↦ inr (ap (λ n. suc n) new.0, new.1) ]

-- the element at the end
pub slice_get-end : {X : Type 0} (xs : List X) (y : X) → slice_get (xs ++ y ∷ []) (length xs) ≡ Some y
slice_get-end [] y = refl
slice_get-end (z ∷ xs) y = slice_get-end xs y

pub length-all_where : (p : ℕ → Bool) (n : ℕ) → length (all_where p n) ≡ count_where p n
unfolding all_where count_where
length-all_where p zero = refl
length-all_where p (suc n) =
    let ih : length (all_where p n) ≡ count_where p n = length-all_where p n in
    elim (cases_Bool (p n)) [
      | inl t ↦ rw t (length-append (all_where p n) (n ∷ []) ∙ ap (λ m. m + 1) ih)
      | inr f ↦ rw f (length-append (all_where p n) [] ∙ ap (λ m. m + 0) ih)
    ]

-- the k-th clock that passes is below n, passes, and k pass before it
pub nth_where-found : (p : ℕ → Bool) (k n c : ℕ) → nth_where p k n ≡ Some c
    → (c < n) × (p c ≡ true) × (count_where p c ≡ k)
unfolding nth_where all_where
nth_where-found p k zero c e = absurd (let h : ⊥ = cc in h)
nth_where-found p k (suc n) c e =
    elim (cases_Bool (p n)) [
      | inl t ↦
          let e' = rw t at e in
          elim (slice_get-push (all_where p n) n k c e') [
            | inl old ↦ let h = nth_where-found p k n c old in (omega (arith, h.0), h.1, h.2)
            | inr new ↦ (
              omega (arith, new.1),
              subst (λ m. p m ≡ true) new.1 t,
              sym (ap (count_where p) new.1) ∙ sym (length-all_where p n) ∙ sym new.0,
            )
          ]
      | inr f ↦
          let e' = rw (f, append-nil) at e in
          let h = nth_where-found p k n c e' in (omega (arith, h.0), h.1, h.2)
    ]

-- a clock below n that passes is the one of its count
pub nth_where-at : (p : ℕ → Bool) (n c : ℕ) → c < n → p c ≡ true → nth_where p (count_where p c) n ≡ Some c
unfolding nth_where all_where
nth_where-at p zero c l t = absurd (omega arith)
nth_where-at p (suc n) c l t =
    elim (cases_order c n) [
      | inl same ↦
          let here : p n ≡ true = subst (λ m. p m ≡ true) same t in
          rw here (ap (λ m. slice_get (all_where p n ++ n ∷ []) m) (ap (count_where p) same
          ∙ sym (length-all_where p n))
          ∙ slice_get-end (all_where p n) n ∙ ap (λ m. Some m) (sym same))
      | inr other ↦
          let below : c < n = elim other [ inl less ↦ less | inr more ↦ absurd (omega arith) ] in
          slice_get-grown (all_where p n) _ (count_where p c) c (nth_where-at p n c below t)
    ]

-- a clock that is found stays, for a test that agrees so far, and among more clocks
pub nth_where-stays : (p q : ℕ → Bool) (k n m c : ℕ) → AgreeBelow n p q → n ≤ m → nth_where p k n ≡ Some c
    → nth_where q k m ≡ Some c
nth_where-stays p q k n m c a l e =
    let h = nth_where-found p k n c e in
    let below : c < n = h.0 in
    let less : AgreeBelow c p q = record { same = λ d less. a.same d (omega arith) } in
    let count : count_where q c ≡ k = sym (count_where-same p q c less) ∙ h.2 in
    rw (← count) (nth_where-at q m c (omega arith) (sym (a.same c below) ∙ h.1))

-- a clock below n that is found among more clocks is found below n
pub nth_where-cut : (p : ℕ → Bool) (k n m c : ℕ) → c < n → nth_where p k m ≡ Some c → nth_where p k n ≡ Some c
nth_where-cut p k n m c l e =
    let h = nth_where-found p k m c e in
    rw (← h.2) (nth_where-at p n c l h.1)

-- places and clocks rise together
pub nth_where-rises : (p : ℕ → Bool) (j k n c d : ℕ) → j < k → nth_where p j n ≡ Some c
    → nth_where p k n ≡ Some d → c < d
nth_where-rises p j k n c d l e f =
    let g = nth_where-found p j n c e in
    let h = nth_where-found p k n d f in
    let jc : count_where p c ≡ j = g.2 in
    let kd : count_where p d ≡ k = h.2 in
    elim (cases_order c d) [
      | inl same ↦ absurd (let u : count_where p c ≡ count_where p d = ap (count_where p) same in omega arith)
      | inr other ↦ elim other [
        | inl less ↦ less
        | inr more ↦ absurd (let u = count_where-mono p d c (omega arith) in omega arith)
      ]
    ]

-- one clock has one place
pub nth_where-one : (p : ℕ → Bool) (j k n c : ℕ) → nth_where p j n ≡ Some c → nth_where p k n ≡ Some c → j ≡ k
nth_where-one p j k n c e f = sym ((nth_where-found p j n c e).2) ∙ (nth_where-found p k n c f).2

-- there is none where no more pass
pub nth_where-past : (p : ℕ → Bool) (k n : ℕ) → count_where p n ≤ k → nth_where p k n ≡ None
unfolding nth_where
nth_where-past p k n l = slice_get_past (all_where p n) k (rw length-all_where l)

-- there is one where more pass
pub nth_where-there : (p : ℕ → Bool) (k n : ℕ) → k < count_where p n → (c : ℕ) × (nth_where p k n ≡ Some c)
unfolding nth_where
nth_where-there p k n l = (get_or (all_where p n) k 0, slice_get-get_or (all_where p n) k 0 (rw length-all_where l))

-- one more clock, which passes, or does not
pub all_where-passed : (p : ℕ → Bool) (n : ℕ) → p n ≡ true → all_where p (n + 1) ≡ all_where p n ++ n ∷ []
unfolding all_where
all_where-passed p n t = rw (add-one, all_where) (ap (λ b. all_where p n ++ cond b (n ∷ []) []) t)

pub all_where-failed : (p : ℕ → Bool) (n : ℕ) → p n ≡ false → all_where p (n + 1) ≡ all_where p n
unfolding all_where
all_where-failed p n f = rw (add-one, all_where) (ap (λ b. all_where p n ++ cond b (n ∷ []) []) f
    ∙ append-nil (all_where p n))

-- a clock that is found is found wherever the tests agree up to it
pub nth_where-carried : (p q : ℕ → Bool) (k n m c : ℕ) → AgreeBelow (c + 1) p q → c < m
    → nth_where p k n ≡ Some c → nth_where q k m ≡ Some c
nth_where-carried p q k n m c a l e =
    nth_where-stays p q k (c + 1) m c a (omega arith) (nth_where-cut p k (c + 1) n c (omega arith) e)
