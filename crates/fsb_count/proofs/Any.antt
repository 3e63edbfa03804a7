-- Whether some clock passes.
use Rattle.std.proofs.Common.{ℕ, zero, suc, ◌<◌, ◌≡◌, Bool, true, false, sym, refl, ◌∙◌, inl, inr, arith, below_more}
use Rattle.std.proofs.Common.{◌+◌, ◌||◌, add-one}
use Rattle.std.proofs.lemmas.Bool.{cases_Bool, both_ways}
use Rattle.fsb_count.specs.Clocks.{any_where, AgreeBelow}

-- what it says that some clock below n passes, or that none does
abbrev pub SaysAny : (ℕ → Bool) → ℕ → Bool → Type 0
SaysAny p n true = (k : ℕ) × (k < n) × (p k ≡ true)
SaysAny p n false = (k : ℕ) → k < n → p k ≡ false

says_any-step : (p : ℕ → Bool) (n : ℕ) (b : Bool) → any_where p n ≡ b → SaysAny p n b
    → SaysAny p (suc n) (any_where p (suc n))
unfolding any_where
says_any-step p n true e h = rw e (h.0, omega arith, h.2)
says_any-step p n false e h =
    elim (cases_Bool (p n)) [
      | inl t ↦ rw (e, t) (n, omega arith, t)
      | inr f ↦ rw (e, f) (λ k l. below_more (λ m. p m ≡ false) n h f k (omega arith))
    ]

pub any_where-says : (p : ℕ → Bool) (n : ℕ) → SaysAny p n (any_where p n)
unfolding any_where
any_where-says p zero = λ k l. absurd (omega arith)
any_where-says p (suc n) = says_any-step p n (any_where p n) refl (any_where-says p n)

either : (b c : Bool) → elim b [ true ↦ true | false ↦ c ] ≡ (b || c)
either true c = refl
either false c = refl

-- one more clock
pub any_where-more : (p : ℕ → Bool) (n : ℕ) → any_where p (n + 1) ≡ (any_where p n || p n)
unfolding any_where
any_where-more p n = rw add-one (either (any_where p n) (p n))

-- some clock passes
pub any_where-found : (p : ℕ → Bool) (n : ℕ) → any_where p n ≡ true → (k : ℕ) × (k < n) × (p k ≡ true)
any_where-found p n e = let h = rw e at (any_where-says p n) in h

-- none passes
pub any_where-none : (p : ℕ → Bool) (n : ℕ) → any_where p n ≡ false → (k : ℕ) → k < n → p k ≡ false
any_where-none p n e = let h = rw e at (any_where-says p n) in h

any_at-cases : (p : ℕ → Bool) (n k : ℕ) (b : Bool) → any_where p n ≡ b → SaysAny p n b → k < n → p k ≡ true
    → any_where p n ≡ true
any_at-cases p n k true e h l t = e
any_at-cases p n k false e h l t = absurd (both_ways (p k) (h k l) t)

pub any_where-at : (p : ℕ → Bool) (n k : ℕ) → k < n → p k ≡ true → any_where p n ≡ true
any_where-at p n k = any_at-cases p n k (any_where p n) refl (any_where-says p n)

any_off-cases : (p : ℕ → Bool) (n : ℕ) (b : Bool) → any_where p n ≡ b → SaysAny p n b
    → ((k : ℕ) → k < n → p k ≡ false) → any_where p n ≡ false
any_off-cases p n false e h f = e
any_off-cases p n true e h f = absurd (both_ways (p h.0) (f h.0 h.1) h.2)

pub any_where-off : (p : ℕ → Bool) (n : ℕ) → ((k : ℕ) → k < n → p k ≡ false) → any_where p n ≡ false
any_where-off p n = any_off-cases p n (any_where p n) refl (any_where-says p n)

any_same-cases : (p q : ℕ → Bool) (n : ℕ) (b : Bool) → AgreeBelow n p q → any_where p n ≡ b
    → any_where p n ≡ any_where q n
any_same-cases p q n true a e =
    let h = any_where-found p n e in e ∙ sym (any_where-at q n h.0 h.1 (sym (a.same h.0 h.1) ∙ h.2))
any_same-cases p q n false a e =
    e ∙ sym (any_where-off q n (λ k l. sym (a.same k l) ∙ any_where-none p n e k l))

-- tests that agree below n
pub any_where-same : (p q : ℕ → Bool) (n : ℕ) → AgreeBelow n p q → any_where p n ≡ any_where q n
any_where-same p q n a = any_same-cases p q n (any_where p n) a refl
