-- The first clock that passes.
use Rattle.std.proofs.Common.{ℕ, zero, suc, ◌+◌, ◌<◌, ◌≤◌, ◌≡◌, Bool, true, false, Option, Some, None, sym, refl, ap}
use Rattle.std.proofs.Common.{◌∙◌, inl, inr, arith, below_more}
use Rattle.std.proofs.lemmas.Bool.{cases_Bool, both_ways, cases_order}
use Rattle.fsb_count.specs.Clocks.{first_where, AgreeBelow}

-- what the first clock below n that passes is: there is none, or one that passes and before which none does
abbrev pub SaysFirst : (ℕ → Bool) → ℕ → Option ℕ → Type 0
SaysFirst p n None = (k : ℕ) → k < n → p k ≡ false
SaysFirst p n (Some c) = (c < n) × (p c ≡ true) × ((k : ℕ) → k < c → p k ≡ false)

says_first-step : (p : ℕ → Bool) (n : ℕ) (o : Option ℕ) → first_where p n ≡ o → SaysFirst p n o
    → SaysFirst p (suc n) (first_where p (suc n))
unfolding first_where
says_first-step p n (Some c) e h = rw e (omega arith, h.1, h.2)
says_first-step p n None e h =
    elim (cases_Bool (p n)) [
      | inl t ↦ rw (e, t) (omega arith, t, h)
      | inr f ↦ rw (e, f) (λ k l. below_more (λ m. p m ≡ false) n h f k (omega arith))
    ]

pub first_where-says : (p : ℕ → Bool) (n : ℕ) → SaysFirst p n (first_where p n)
unfolding first_where
first_where-says p zero = λ k l. absurd (omega arith)
first_where-says p (suc n) = says_first-step p n (first_where p n) refl (first_where-says p n)

-- the clock that is found is below n, passes, and is the first to
pub first_where-found : (p : ℕ → Bool) (n c : ℕ) → first_where p n ≡ Some c
    → (c < n) × (p c ≡ true) × ((k : ℕ) → k < c → p k ≡ false)
first_where-found p n c e = let h = rw e at (first_where-says p n) in h

-- where none is found, none passes
pub first_where-none : (p : ℕ → Bool) (n : ℕ) → first_where p n ≡ None → (k : ℕ) → k < n → p k ≡ false
first_where-none p n e = let h = rw e at (first_where-says p n) in h

first_at-cases : (p : ℕ → Bool) (n c : ℕ) (o : Option ℕ) → first_where p n ≡ o → SaysFirst p n o → c < n
    → p c ≡ true → ((k : ℕ) → k < c → p k ≡ false) → first_where p n ≡ Some c
first_at-cases p n c None e h l t f = absurd (both_ways (p c) (h c l) t)
first_at-cases p n c (Some d) e h l t f =
    elim (cases_order c d) [
      | inl same ↦ e ∙ ap (λ x. Some x) (sym same)
      | inr other ↦ elim other [
        | inl less ↦ absurd (both_ways (p c) (h.2 c less) t)
        | inr more ↦ absurd (both_ways (p d) (f d more) h.1)
      ]
    ]

-- a clock below n that passes, and before which none does, is the one that is found
pub first_where-at : (p : ℕ → Bool) (n c : ℕ) → c < n → p c ≡ true → ((k : ℕ) → k < c → p k ≡ false)
    → first_where p n ≡ Some c
first_where-at p n c = first_at-cases p n c (first_where p n) refl (first_where-says p n)

first_off-cases : (p : ℕ → Bool) (n : ℕ) (o : Option ℕ) → first_where p n ≡ o → SaysFirst p n o
    → ((k : ℕ) → k < n → p k ≡ false) → first_where p n ≡ None
first_off-cases p n None e h f = e
first_off-cases p n (Some d) e h f = absurd (both_ways (p d) (f d h.0) h.1)

-- where none passes, none is found
pub first_where-off : (p : ℕ → Bool) (n : ℕ) → ((k : ℕ) → k < n → p k ≡ false) → first_where p n ≡ None
first_where-off p n = first_off-cases p n (first_where p n) refl (first_where-says p n)

-- a clock that is found stays the one that is found, for a test that agrees so far, and among more clocks
pub first_where-stays : (p q : ℕ → Bool) (n m c : ℕ) → AgreeBelow n p q → n ≤ m → first_where p n ≡ Some c
    → first_where q m ≡ Some c
first_where-stays p q n m c a l e =
    let h = first_where-found p n c e in
    let below : c < n = h.0 in
    first_where-at q m c (omega arith) (sym (a.same c below) ∙ h.1) (λ k less. sym (a.same k (omega arith))
    ∙ h.2 k less)

-- a clock below n that is found among more clocks is found below n
pub first_where-cut : (p : ℕ → Bool) (n m c : ℕ) → c < n → first_where p m ≡ Some c → first_where p n ≡ Some c
first_where-cut p n m c l e = let h = first_where-found p m c e in first_where-at p n c l h.1 h.2

first_same-cases : (p q : ℕ → Bool) (n : ℕ) (o : Option ℕ) → AgreeBelow n p q → first_where p n ≡ o
    → first_where p n ≡ first_where q n
first_same-cases p q n (Some c) a e = e ∙ sym (first_where-stays p q n n c a (omega arith) e)
first_same-cases p q n None a e =
    e ∙ sym (first_where-off q n (λ k l. sym (a.same k l) ∙ first_where-none p n e k l))

-- tests that agree below n have the same first clock
pub first_where-same : (p q : ℕ → Bool) (n : ℕ) → AgreeBelow n p q → first_where p n ≡ first_where q n
first_where-same p q n a = first_same-cases p q n (first_where p n) a refl

-- a clock that is found is found wherever the tests agree up to it
pub first_where-carried : (p q : ℕ → Bool) (n m c : ℕ) → AgreeBelow (c + 1) p q → c < m
    → first_where p n ≡ Some c → first_where q m ≡ Some c
first_where-carried p q n m c a l e =
    first_where-stays p q (c + 1) m c a (omega arith) (first_where-cut p (c + 1) n c (omega arith) e)
