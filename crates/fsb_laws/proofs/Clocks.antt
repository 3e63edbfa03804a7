-- Words over a test of a clock: all clocks that pass, and how many.
use Rattle.std.proofs.Common.{ℕ, zero, suc, ◌+◌, ◌<◌, ◌≡◌, Bool, true, false, cond, ◌&&◌, nat_le, [], ◌∷◌, ◌++◌, drop}
use Rattle.std.proofs.Common.{filter, length, refl, sym, ap, ◌∙◌, arith, inl, inr, add-one}
use Rattle.std.proofs.lemmas.Bool.{cases_Bool, cases_lt, and_left, and_right, and_from, le-leb, lt-leb}
use Rattle.std.proofs.lemmas.List.{length-append, drop-append-le, drop_all}
use Rattle.std.proofs.lemmas.List.Elements.{filter-append}
use Rattle.fsb_count.specs.Clocks.{AgreeBelow, count_where, all_where}
use Rattle.fsb_count.proofs.Interface.{length-all_where, all_where-passed, all_where-failed}

-- tests that agree below n
pub all_where-same : (p q : ℕ → Bool) (n : ℕ) → AgreeBelow n p q → all_where p n ≡ all_where q n
unfolding all_where
all_where-same p q zero a = refl
all_where-same p q (suc n) a =
    let less : AgreeBelow n p q = record { same = λ c l. a.same c (omega arith) } in
    rw (all_where-same p q n less, a.same n (omega arith)) refl

-- one more clock
pub all_where-more : (p : ℕ → Bool) (n : ℕ) → all_where p (n + 1) ≡ all_where p n ++ cond (p n) (n ∷ []) []
unfolding all_where
all_where-more p n = rw add-one refl

one : (p r : ℕ → Bool) (n : ℕ) (b : Bool) (c : Bool) → r n ≡ c
    → cond (b && c) (n ∷ []) [] ≡ filter r (cond b (n ∷ []) [])
one p r n false c e = refl
one p r n true true e = rw e refl
one p r n true false e = rw e refl

-- a second test
pub all_where-filter : (p r : ℕ → Bool) (n : ℕ) → all_where (λ q. p q && r q) n ≡ filter r (all_where p n)
unfolding all_where
all_where-filter p r zero = refl
all_where-filter p r (suc n) =
    ap (λ xs. xs ++ cond (p n && r n) (n ∷ []) []) (all_where-filter p r n)
    ∙ ap (λ xs. filter r (all_where p n) ++ xs) (one p r n (p n) (r n) refl)
    ∙ sym (filter-append r (all_where p n) (cond (p n) (n ∷ []) []))

-- how many pass does not grow where none does
pub count_where-none : (p : ℕ → Bool) (n : ℕ) → ((k : ℕ) → k < n → p k ≡ false) → count_where p n ≡ 0
unfolding count_where
count_where-none p zero f = refl
count_where-none p (suc n) f =
    let before : count_where p n ≡ 0 = count_where-none p n (λ k l. f k (omega arith)) in
    rw (f n (omega arith), before) refl

none_at_all : (p : ℕ → Bool) (k : ℕ) → all_where (λ q. p q && nat_le k (count_where p q)) 0 ≡ drop k (all_where p 0)
unfolding all_where
none_at_all p zero = refl
none_at_all p (suc k) = refl

drop_passed : (p : ℕ → Bool) (k n : ℕ) → p n ≡ true
    → all_where (λ q. p q && nat_le k (count_where p q)) n ≡ drop k (all_where p n)
    → all_where (λ q. p q && nat_le k (count_where p q)) (n + 1) ≡ drop k (all_where p (n + 1))
drop_passed p k n t ih =
    let size : length (all_where p n) ≡ count_where p n = length-all_where p n in
    let grown : all_where p (n + 1) ≡ all_where p n ++ n ∷ [] = all_where-passed p n t in
    elim (cases_lt (count_where p n) k) [
      | inl few ↦
          let longer : length (all_where p n ++ n ∷ []) ≡ length (all_where p n) + 1 =
          length-append (all_where p n) (n ∷ []) in
          all_where-failed (λ q. p q && nat_le k (count_where p q)) n (and_right _ _ (lt-leb k (count_where p n) few))
          ∙ ih ∙ drop_all k (all_where p n) (omega arith)
          ∙ sym (rw grown (drop_all k (all_where p n ++ n ∷ []) (omega arith)))
      | inr enough ↦
          all_where-passed (λ q. p q && nat_le k (count_where p q)) n
          (and_from _ _ t (le-leb k (count_where p n) enough))
          ∙ ap (λ xs. xs ++ n ∷ []) ih ∙ sym (rw grown (drop-append-le k (all_where p n) (n ∷ []) (omega arith)))
    ]

drop_failed : (p : ℕ → Bool) (k n : ℕ) → p n ≡ false
    → all_where (λ q. p q && nat_le k (count_where p q)) n ≡ drop k (all_where p n)
    → all_where (λ q. p q && nat_le k (count_where p q)) (n + 1) ≡ drop k (all_where p (n + 1))
drop_failed p k n f ih =
    all_where-failed (λ q. p q && nat_le k (count_where p q)) n (and_left _ _ f)
    ∙ ih ∙ sym (ap (drop k) (all_where-failed p n f))

-- the clocks with k or more before them that pass
pub all_where-drop : (p : ℕ → Bool) (k n : ℕ)
    → all_where (λ q. p q && nat_le k (count_where p q)) n ≡ drop k (all_where p n)
all_where-drop p k zero = none_at_all p k
all_where-drop p k (suc n) =
    let e : suc n ≡ n + 1 = omega arith in
    rw e (elim (cases_Bool (p n)) [
      | inl t ↦ drop_passed p k n t (all_where-drop p k n)
      | inr f ↦ drop_failed p k n f (all_where-drop p k n)
    ])
