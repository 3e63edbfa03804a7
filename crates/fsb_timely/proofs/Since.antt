-- What it says that something has held since a gain.
use Rattle.std.proofs.Common.{ℕ, zero, suc, ◌+◌, ◌<◌, ◌≤◌, ◌≡◌, Bool, true, false, ◌&&◌, Option, Some, None, refl, ap}
use Rattle.std.proofs.Common.{sym, subst, ◌∙◌, inl, inr, arith}
use Rattle.std.proofs.lemmas.Bool.{cases_Bool, cases_lt, le-leb, not-true, both_ways}
use Rattle.fsb_count.specs.Clocks.{last_where, from_clock, holds_since}
use Rattle.fsb_count.proofs.Interface.{any_where-none, any_where-off}
use Rattle.fsb_timely.specs.Past.{Past}
use Rattle.fsb_timely.specs.Grants.{is_granted, is_lost, holds_line, IsHeldSince}

-- the last clock that passes: it passes, and lies below n
pub last_where-found : (test : ℕ → Bool) (n c : ℕ) → last_where test n ≡ Some c → (c < n) × (test c ≡ true)
unfolding last_where
last_where-found test zero c e = absurd (let h : ⊥ = cc in h)
last_where-found test (suc n) c e = grind (arith, last_where-found test n c)

-- where a clock passes, the last one that passes is that clock or a later one
pub last_where-from : (test : ℕ → Bool) (n c : ℕ) → c < n → test c ≡ true
    → (d : ℕ) × (last_where test n ≡ Some d) × (c ≤ d)
unfolding last_where
last_where-from test zero c l t = absurd (omega arith)
last_where-from test (suc n) c l t =
    elim (cases_Bool (test n)) [
      | inl u ↦ (n, rw (u, last_where) refl, omega arith)
      | inr f ↦ elim (cases_lt c n) [
        | inl m ↦ let h = last_where-from test n c m t in (h.0, rw (f, last_where) h.1, h.2)
        | inr m ↦ let same : c ≡ n = omega arith in absurd (both_ways (test n) f (subst (λ k. test k ≡ true) same t))
      ]
    ]

since-by : (gain loss : ℕ → Bool) (n : ℕ) (o : Option ℕ) → last_where gain n ≡ o → holds_since gain loss n ≡ true
    → (c : ℕ) × (c < n) × (gain c ≡ true) × ((t : ℕ) → c < t → t < n → loss t ≡ false)
unfolding holds_since from_clock
since-by gain loss n None e h = absurd (let x : ⊥ = (let h' = rw (e, holds_since) at h in cc) in x)
since-by gain loss n (Some c) e h =
    let found = last_where-found gain n c e in
    let none = any_where-none (from_clock (c + 1) loss) n (not-true _ (let h' = rw (e, holds_since) at h in h')) in
    (c, found.0, found.1, λ t l m. sym (ap (λ b. b && loss t) (le-leb (c + 1) t (omega arith))) ∙ none t m)

-- something has held: there is a gain, and no loss after it
pub since-says : (gain loss : ℕ → Bool) (n : ℕ) → holds_since gain loss n ≡ true
    → (c : ℕ) × (c < n) × (gain c ≡ true) × ((t : ℕ) → c < t → t < n → loss t ≡ false)
since-says gain loss n h = since-by gain loss n (last_where gain n) refl h

-- and where there is a gain with no loss after it, it has held
pub since-from : (gain loss : ℕ → Bool) (n c : ℕ) → c < n → gain c ≡ true
    → ((t : ℕ) → c < t → t < n → loss t ≡ false) → holds_since gain loss n ≡ true
unfolding holds_since from_clock
since-from gain loss n c l g kept =
    let last = last_where-from gain n c l g in
    grind (arith, any_where-off)

-- an agent holds a line
pub holds_line-says : (p : Past) (a line c : ℕ) → holds_line p a line c ≡ true → IsHeldSince p a line c
unfolding holds_line
holds_line-says p a line c e = grind (arith, since-says)

pub holds_line-from : (p : Past) (a line c : ℕ) → IsHeldSince p a line c → holds_line p a line c ≡ true
unfolding holds_line
holds_line-from p a line c h = since-from (is_granted p a line) (is_lost p a line) c h.at h.before h.granted h.kept
