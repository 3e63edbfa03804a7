-- Tests that pass together, and searches that find the same.
use Rattle.fsb_timely_laws.proofs.Words
use Words.{ℕ, ◌<◌, ◌≤◌, ◌≡◌, Bool, true, false, Option, Some, None, refl, sym, ◌∙◌, arith, inl, inr, cases_Bool}
use Words.{false_from_ne_true, any_where, each_where, first_where, is_before, any_where-at, any_where-found}
use Words.{each_where-all, each_where-at, first_where-at, first_where-found, is_before-from, is_before-parts}

-- two tests that pass together are the same
pub both-same : (a b : Bool) → (a ≡ true → b ≡ true) → (b ≡ true → a ≡ true) → a ≡ b
both-same true b f g = sym (f refl)
both-same false true f g = g refl
both-same false false f g = refl

-- each clock below n that passes the first test is below m and passes the second
pub record PassesIn (f g : ℕ → Bool) (n m : ℕ) : Type 0 where
  pub passes : (k : ℕ) → k < n → f k ≡ true → (k < m) × (g k ≡ true)

pub any-both : (f g : ℕ → Bool) (n m : ℕ) → PassesIn f g n m → PassesIn g f m n → any_where f n ≡ any_where g m
any-both f g n m to back = both-same (any_where f n) (any_where g m) (one f g n m to) (one g f m n back)
  where
    one : (f g : ℕ → Bool) (n m : ℕ) → PassesIn f g n m → any_where f n ≡ true → any_where g m ≡ true
    one f g n m to e =
        let p = any_where-found f n e in
        let q = to.passes p.0 p.1 p.2 in any_where-at g m p.0 q.0 q.1

found-there : (f g : ℕ → Bool) (n m k : ℕ) → PassesIn f g n m → PassesIn g f m n → first_where f n ≡ Some k
    → first_where g m ≡ Some k
found-there f g n m k to back e =
    let p = first_where-found f n k e in
    let below : k < n = p.0 in
    let q = to.passes k below p.1 in
    let there : k < m = q.0 in
    first_where-at g m k there q.1 (λ j l. false_from_ne_true (g j) (λ t.
    let r = back.passes j (omega arith) t in let no : false ≡ true = sym (p.2 j l) ∙ r.1 in cc no))

-- two numbers that are reached together are the same
pub option-same : (o p : Option ℕ) → ((k : ℕ) → o ≡ Some k → p ≡ Some k) → ((k : ℕ) → p ≡ Some k → o ≡ Some k) → o ≡ p
option-same (Some k) p f g = sym (f k refl)
option-same None (Some k) f g = g k refl
option-same None None f g = refl

pub first-both : (f g : ℕ → Bool) (n m : ℕ) → PassesIn f g n m → PassesIn g f m n → first_where f n ≡ first_where g m
first-both f g n m to back =
    option-same (first_where f n) (first_where g m) (λ k e. found-there f g n m k to back e)
    (λ k e. found-there g f m n k back to e)

-- each clock below n that fails the first test is below m and fails the second
pub record FailsIn (f g : ℕ → Bool) (n m : ℕ) : Type 0 where
  pub fails : (k : ℕ) → k < n → f k ≡ false → (k < m) × (g k ≡ false)

pub each-both : (f g : ℕ → Bool) (n m : ℕ) → FailsIn f g n m → FailsIn g f m n → each_where f n ≡ each_where g m
each-both f g n m to back = both-same (each_where f n) (each_where g m) (one f g n m back) (one g f m n to)
  where
    one : (f g : ℕ → Bool) (n m : ℕ) → FailsIn g f m n → each_where f n ≡ true → each_where g m ≡ true
    one f g n m back e =
        each_where-all g m (λ k l. elim (cases_Bool (g k)) [
          | inl t ↦ t
          | inr failed ↦
              let p = back.fails k l failed in
              absurd (let both : false ≡ true = sym p.1 ∙ each_where-at f n e k p.0 in cc both)
        ])

-- a number is before c where it is so elsewhere, if each is the other as far as n
pub before-same : (n c : ℕ) (o p : Option ℕ) → c ≤ n → ((t : ℕ) → t < n → o ≡ Some t → p ≡ Some t)
    → ((t : ℕ) → t < n → p ≡ Some t → o ≡ Some t) → is_before o c ≡ is_before p c
before-same n c o p l to back = both-same (is_before o c) (is_before p c) (one n c o p l to) (one n c p o l back)
  where
    one : (n c : ℕ) (o p : Option ℕ) → c ≤ n → ((t : ℕ) → t < n → o ≡ Some t → p ≡ Some t) → is_before o c ≡ true
        → is_before p c ≡ true
    one n c o p l to e =
        let m = is_before-parts o c e in
        let below : m.0 < c = m.2 in is_before-from p m.0 c (to m.0 (omega arith) m.1) below
