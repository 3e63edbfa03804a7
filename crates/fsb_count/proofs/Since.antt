-- What has held since the last gain.
use Rattle.std.proofs.Common.{ℕ, zero, suc, ◌+◌, ◌<◌, ◌≡◌, Bool, true, false, not, ◌&&◌, ◌||◌, Option, Some, None, sym}
use Rattle.std.proofs.Common.{refl, ap, ◌∙◌, inl, inr, arith, add-one}
use Rattle.std.proofs.lemmas.Bool.{cases_Bool, lt-leb, le-leb}
use Rattle.fsb_count.specs.Clocks.{last_where, any_where, from_clock, holds_since}
use Rattle.fsb_count.proofs.Any.{any_where-off}

-- one more clock, which passes, is the last that does
pub last_where-passed : (p : ℕ → Bool) (n : ℕ) → p n ≡ true → last_where p (suc n) ≡ Some n
unfolding last_where
last_where-passed p n t = rw (t, last_where) refl

-- one more clock, which does not pass, leaves the last one
pub last_where-failed : (p : ℕ → Bool) (n : ℕ) → p n ≡ false → last_where p (suc n) ≡ last_where p n
unfolding last_where
last_where-failed p n f = rw (f, last_where) refl

last_below : (p : ℕ → Bool) (n c : ℕ) → last_where p n ≡ Some c → c < n
unfolding last_where
last_below p zero c e = absurd (let h : ⊥ = cc in h)
last_below p (suc n) c e =
    elim (cases_Bool (p n)) [
      | inl t ↦ let same : n ≡ c = (let e' = sym (last_where-passed p n t) ∙ e in cc) in omega arith
      | inr f ↦ let l : c < n = last_below p n c (sym (last_where-failed p n f) ∙ e) in omega arith
    ]

-- nothing has been lost since a gain at n
none_from_next : (loss : ℕ → Bool) (n : ℕ) → any_where (from_clock (n + 1) loss) (suc n) ≡ false
unfolding from_clock
none_from_next loss n =
    any_where-off (from_clock (n + 1) loss) (suc n) (λ k l. ap (λ b. b && loss k) (lt-leb (n + 1) k (omega arith)))

-- one more clock is lost if n is a loss
one_more : (loss : ℕ → Bool) (n c : ℕ) → c < n → (b : Bool) → any_where (from_clock (c + 1) loss) n ≡ b
    → not (any_where (from_clock (c + 1) loss) (suc n)) ≡ (not b && not (loss n))
unfolding any_where from_clock
one_more loss n c l true e = rw e refl
one_more loss n c l false e = rw (e, le-leb (c + 1) n (omega arith)) refl

since-kept : (gain loss : ℕ → Bool) (n : ℕ) → gain n ≡ false → (o : Option ℕ) → last_where gain n ≡ o
    → holds_since gain loss (suc n) ≡ (holds_since gain loss n && not (loss n))
unfolding holds_since
since-kept gain loss n f None e = rw (last_where-failed gain n f, e, holds_since) refl
since-kept gain loss n f (Some c) e =
    rw (last_where-failed gain n f, e, holds_since) (one_more loss n c (last_below gain n c e) _ refl)

since-gained : (gain loss : ℕ → Bool) (n : ℕ) → gain n ≡ true → holds_since gain loss (suc n) ≡ true
unfolding holds_since
since-gained gain loss n t = rw (last_where-passed gain n t, holds_since) (ap not (none_from_next loss n))

-- the next clock: a gain holds, and otherwise what held and is not lost
pub holds_since-more : (gain loss : ℕ → Bool) (n : ℕ)
    → holds_since gain loss (n + 1) ≡ (gain n || (holds_since gain loss n && not (loss n)))
holds_since-more gain loss n =
    rw add-one (elim (cases_Bool (gain n)) [
      | inl t ↦ since-gained gain loss n t ∙ sym (ap (λ b. b || (holds_since gain loss n && not (loss n))) t)
      | inr f ↦ since-kept gain loss n f (last_where gain n) refl
          ∙ sym (ap (λ b. b || (holds_since gain loss n && not (loss n))) f)
    ])
