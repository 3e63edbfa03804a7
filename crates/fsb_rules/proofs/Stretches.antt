-- Stretches of numbered things that go on.
use Rattle.std.proofs.Common.{ℕ, suc, ◌+◌, ◌-◌, ◌<◌, ◌≤◌, ◌≡◌, Some, None, List, [], ◌∷◌, ◌++◌, length}
use Rattle.std.proofs.Common.{take, drop, slice_get, sym, ap, arith, subst}
use Rattle.std.proofs.lemmas.Option.{same_Some}
use Rattle.fsb_rules.specs.Stretch.{Stretch}

pub stretch-size : {A : Type 0} (is : ℕ → A → Type 0) (xs : List A) (m n : ℕ) → Stretch is xs m n → length xs + m ≡ n
stretch-size is [] m n w = let e : m ≡ n = w in omega arith
stretch-size is (x ∷ xs) m n w = let e = stretch-size is xs (m + 1) n w.1 in omega arith

module _ {A : Type 0} (is : ℕ → A → Type 0) where
  -- the first thing, where there is one
  pub stretch-head : (xs : List A) (x : A) (m n : ℕ) → Stretch is xs m n → slice_get xs 0 ≡ Some x → is m x
  stretch-head [] x m n w e = absurd (let no : ⊥ = cc in no)
  stretch-head (y ∷ ys) x m n w e = subst (is m) (same_Some _ _ e) w.0

  pub stretch-end : (xs : List A) (m n : ℕ) → Stretch is xs m n → slice_get xs 0 ≡ None → m ≡ n
  stretch-end [] m n w e = w
  stretch-end (x ∷ xs) m n w e = absurd (let no : ⊥ = cc in no)

  -- the next one comes
  pub stretch-push : (xs : List A) (y : A) (m n : ℕ) → Stretch is xs m n → is n y → Stretch is (xs ++ y ∷ []) m (n + 1)
  stretch-push [] y m n w t = (subst (λ i. is i y) (sym w) t, ap (λ i. i + 1) w)
  stretch-push (x ∷ xs) y m n w t = (w.0, stretch-push xs y (m + 1) n w.1 t)

  -- the first one goes
  pub stretch-tail : (xs : List A) (m n : ℕ) → Stretch is xs m n → m < n → Stretch is (drop 1 xs) (m + 1) n
  stretch-tail [] m n w l = absurd (let e : m ≡ n = w in omega arith)
  stretch-tail (x ∷ xs) m n w l = w.1

  -- the last one goes
  pub stretch-init : (xs : List A) (m n : ℕ) → Stretch is xs m (n + 1) → m ≤ n
      → Stretch is (take (length xs - 1) xs) m n
  stretch-init [] m n w l = absurd (let e : m ≡ n + 1 = w in omega arith)
  stretch-init (x ∷ []) m n w l = let e : m + 1 ≡ n + 1 = w.1 in let same : m ≡ n = omega arith in same
  stretch-init (x ∷ y ∷ ys) m n w l =
      let e = stretch-size is (y ∷ ys) (m + 1) (n + 1) w.1 in
      let more : length (x ∷ y ∷ ys) - 1 ≡ suc (length (y ∷ ys) - 1) = omega arith in
      subst (λ k. Stretch is (take k (x ∷ y ∷ ys)) m n) (sym more)
      (w.0, stretch-init (y ∷ ys) (m + 1) n w.1 (omega arith))

  -- the things are such ones too
  pub stretch-same : (was : ℕ → A → Type 0) (xs : List A) (m n : ℕ) → Stretch was xs m n
      → ((i : ℕ) (a : A) → m ≤ i → i < n → was i a → is i a) → Stretch is xs m n
  stretch-same was [] m n w f = w
  stretch-same was (x ∷ xs) m n w f =
      let e = stretch-size was (x ∷ xs) m n w in
      (f m x (omega arith) (omega arith) w.0, stretch-same was xs (m + 1) n w.1 (λ i a low. f i a (omega arith)))
