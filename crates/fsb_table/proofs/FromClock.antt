-- The k-th clock that passes from a clock on.
use Rattle.std.proofs.Common.{ℕ, zero, suc, ◌+◌, ◌-◌, ◌<◌, ◌≤◌, ◌≡◌, Bool, true, false, ◌&&◌, Option, Some, None, refl}
use Rattle.std.proofs.Common.{sym, ap, ◌∙◌, arith, inl, inr}
use Rattle.std.proofs.lemmas.Bool.{cases_Bool, cases_lt, and_left, and_parts, le-leb, lt-leb, leb-true}
use Rattle.fsb_count.specs.Clocks.{first_where, nth_where, count_where, from_clock}
use Rattle.fsb_count.proofs.Interface.{first_where-found, first_where-none, count_where-passed, count_where-failed}
use Rattle.fsb_count.proofs.Interface.{nth_where-at, nth_where-found, nth_where-past, nth_where-there}

from_low : (a : ℕ) (p : ℕ → Bool) (k : ℕ) → k < a → from_clock a p k ≡ false
unfolding from_clock
from_low a p k l = and_left _ _ (lt-leb a k l)

pub from_high : (a : ℕ) (p : ℕ → Bool) (k : ℕ) → a ≤ k → from_clock a p k ≡ p k
unfolding from_clock
from_high a p k l = ap (λ b. b && p k) (le-leb a k l)

-- a clock that passes from a clock on is not before it
pub from_parts : (a : ℕ) (p : ℕ → Bool) (k : ℕ) → from_clock a p k ≡ true → (a ≤ k) × (p k ≡ true)
unfolding from_clock
from_parts a p k t = let h = and_parts _ _ t in (leb-true a k h.0, h.1)

-- none passes where none does
pub count-none : (p : ℕ → Bool) (n : ℕ) → ((k : ℕ) → k < n → p k ≡ false) → count_where p n ≡ 0
unfolding count_where
count-none p zero f = refl
count-none p (suc n) f =
    let before : count_where p n ≡ 0 = count-none p n (λ k l. f k (omega arith)) in
    rw (f n (omega arith), before) refl

pub count_from-start : (a : ℕ) (p : ℕ → Bool) (n : ℕ) → n ≤ a → count_where (from_clock a p) n ≡ 0
count_from-start a p n l = count-none (from_clock a p) n (λ k less. from_low a p k (omega arith))

-- those from a clock on are those behind the ones before it
pub count_from : (a : ℕ) (p : ℕ → Bool) (m : ℕ)
    → count_where p (a + m) ≡ count_where p a + count_where (from_clock a p) (a + m)
count_from a p zero =
    let none : count_where (from_clock a p) (a + 0) ≡ 0 = count_from-start a p (a + 0) (omega arith) in
    let same : count_where p (a + 0) ≡ count_where p a = ap (count_where p) (let e : a + 0 ≡ a = omega arith in e) in
    omega arith
count_from a p (suc m) =
    let e : a + suc m ≡ (a + m) + 1 = omega arith in
    let ih : count_where p (a + m) ≡ count_where p a + count_where (from_clock a p) (a + m) = count_from a p m in
    let here : from_clock a p (a + m) ≡ p (a + m) = from_high a p (a + m) (omega arith) in
    rw e (elim (cases_Bool (p (a + m))) [
      | inl t ↦
          let one : count_where p ((a + m) + 1) ≡ count_where p (a + m) + 1 = count_where-passed p (a + m) t in
          let two : count_where (from_clock a p) ((a + m) + 1) ≡ count_where (from_clock a p) (a + m) + 1 =
          count_where-passed (from_clock a p) (a + m) (here ∙ t) in
          omega arith
      | inr f ↦
          let one : count_where p ((a + m) + 1) ≡ count_where p (a + m) = count_where-failed p (a + m) f in
          let two : count_where (from_clock a p) ((a + m) + 1) ≡ count_where (from_clock a p) (a + m) =
          count_where-failed (from_clock a p) (a + m) (here ∙ f) in
          omega arith
    ])

counted : (a : ℕ) (p : ℕ → Bool) (n : ℕ) → a ≤ n → count_where p n ≡ count_where p a + count_where (from_clock a p) n
counted a p n l =
    let e : a + (n - a) ≡ n = omega arith in rw e at (count_from a p (n - a))

-- no more pass than are before one that is not there
pub few-none : (p : ℕ → Bool) (k n : ℕ) → nth_where p k n ≡ None → count_where p n ≤ k
few-none p k n e =
    elim (cases_lt k (count_where p n)) [
      | inl more ↦ let there = nth_where-there p k n more in absurd (let no : ⊥ = cc in no)
      | inr few ↦ few
    ]

first-cases : (p : ℕ → Bool) (n : ℕ) (o : Option ℕ) → first_where p n ≡ o → first_where p n ≡ nth_where p 0 n
first-cases p n (Some c) e =
    let h = first_where-found p n c e in
    let none : count_where p c ≡ 0 = count-none p c h.2 in
    e ∙ sym (rw none at (nth_where-at p n c h.0 h.1))
first-cases p n None e =
    let none : count_where p n ≡ 0 = count-none p n (first_where-none p n e) in
    e ∙ sym (nth_where-past p 0 n (omega arith))

-- the first one is that before which none passes
pub first-nth : (p : ℕ → Bool) (n : ℕ) → first_where p n ≡ nth_where p 0 n
first-nth p n = first-cases p n (first_where p n) refl

next-cases : (p : ℕ → Bool) (k a n : ℕ) (o : Option ℕ) → a ≤ n → count_where p a ≡ k
    → nth_where (from_clock a p) 0 n ≡ o → nth_where p k n ≡ nth_where (from_clock a p) 0 n
next-cases p k a n (Some c) l e f =
    let h = nth_where-found (from_clock a p) 0 n c f in
    let parts = from_parts a p c h.1 in
    let more : count_where p c ≡ count_where p a + count_where (from_clock a p) c = counted a p c parts.0 in
    let none : count_where (from_clock a p) c ≡ 0 = h.2 in
    let place : count_where p c ≡ k = omega arith in
    (rw place at (nth_where-at p n c h.0 parts.1)) ∙ sym f
next-cases p k a n None l e f =
    let few : count_where (from_clock a p) n ≤ 0 = few-none (from_clock a p) 0 n f in
    let all : count_where p n ≡ count_where p a + count_where (from_clock a p) n = counted a p n l in
    nth_where-past p k n (omega arith) ∙ sym f

-- where k pass before a clock, the k-th is the first from it on
pub next-first : (p : ℕ → Bool) (k a n : ℕ) → a ≤ n → count_where p a ≡ k
    → nth_where p k n ≡ nth_where (from_clock a p) 0 n
next-first p k a n l e = next-cases p k a n (nth_where (from_clock a p) 0 n) l e refl

-- behind the k-th comes the first from the next clock on
pub next-found : (p : ℕ → Bool) (k n c : ℕ) → nth_where p k n ≡ Some c
    → nth_where p (k + 1) n ≡ nth_where (from_clock (c + 1) p) 0 n
next-found p k n c e =
    let h = nth_where-found p k n c e in
    let below : c < n = h.0 in
    let place : count_where p c ≡ k = h.2 in
    let one : count_where p (c + 1) ≡ count_where p c + 1 = count_where-passed p c h.1 in
    next-first p (k + 1) (c + 1) n (omega arith) (omega arith)

-- behind one that is not there comes none
pub next-none : (p : ℕ → Bool) (k n : ℕ) → nth_where p k n ≡ None
    → nth_where p (k + 1) n ≡ nth_where (from_clock n p) 0 n
next-none p k n e =
    let few : count_where p n ≤ k = few-none p k n e in
    let none : count_where (from_clock n p) n ≡ 0 = count_from-start n p n (omega arith) in
    nth_where-past p (k + 1) n (omega arith) ∙ sym (nth_where-past (from_clock n p) 0 n (omega arith))
