-- The last clock that passes, where a later clock only passes a second test the more.
use Rattle.std.proofs.Common.{◌≡◌, ◌<◌, ◌≤◌, ◌&&◌, ℕ, zero, suc, Bool, true, false, cond, Some, refl, sym, ap, ◌∙◌, inl}
use Rattle.std.proofs.Common.{inr, arith}
use Rattle.std.specs.Option.{option_map_or}
use Rattle.std.proofs.lemmas.Bool.{cases_Bool, and_parts}
use Rattle.fsb_count.specs.Clocks.{any_where, last_where}
use Rattle.fsb_count.proofs.Interface.{any_where-found}

by_newest : {X : Type 0} (a b : Bool) (x y : X) → a ≡ b → elim a [ true ↦ x | false ↦ y ] ≡ cond b x y
by_newest true b x y e = ap (λ (b : Bool). cond b x y) e
by_newest false b x y e = ap (λ (b : Bool). cond b x y) e

-- the last clock, by whether the newest one passes
pub last_step : (p : ℕ → Bool) (n : ℕ) (b : Bool) → p n ≡ b → last_where p (suc n) ≡ cond b (Some n) (last_where p n)
unfolding last_where
last_step p n b e = by_newest (p n) b (Some n) (last_where p n) e

-- two tests that agree below n have one last clock there
pub last_where-same : (p q : ℕ → Bool) (n : ℕ) → ((c : ℕ) → c < n → p c ≡ q c) → last_where p n ≡ last_where q n
unfolding last_where
last_where-same p q zero same = refl
last_where-same p q (suc n) same =
    last_step p n (q n) (same n (omega arith))
    ∙ ap (λ o. cond (q n) (Some n) o) (last_where-same p q n (λ c l. same c (omega (arith, l))))
    ∙ sym (last_step q n (q n) refl)

-- the last clock is below n, and it passes
pub last_where-found : (p : ℕ → Bool) (n d : ℕ) → last_where p n ≡ Some d → (d < n) × (p d ≡ true)
unfolding last_where
last_where-found p zero d e = absurd (let no : ⊥ = cc in no)
last_where-found p (suc n) d e =
    elim (cases_Bool (p n)) [
      | inl t ↦ (let here : n ≡ d = (let s : Some n ≡ Some d = sym (last_step p n true t) ∙ e in cc) in
          (omega (arith, here), ap p (sym here) ∙ t))
      | inr f ↦ (let before = last_where-found p n d (sym (last_step p n false f) ∙ e) in
          (omega (arith, before.0), before.1))
    ]

any_step : (p : ℕ → Bool) (n : ℕ) (b : Bool) → any_where p n ≡ b → any_where p (suc n) ≡ cond b true (p n)
unfolding any_where
any_step p n b e = by_newest (any_where p n) b true (p n) e

-- some clock passes both where the last one that passes the first does
pub any-last : (p q : ℕ → Bool) (n : ℕ) → ((d e : ℕ) → d ≤ e → q d ≡ true → q e ≡ true)
    → any_where (λ d. p d && q d) n ≡ option_map_or q (last_where p n) false
unfolding any_where last_where
any-last p q zero later = refl
any-last p q (suc n) later =
    let both : ℕ → Bool = λ d. p d && q d in
    elim (cases_Bool (any_where both n)) [
      | inl some ↦ elim (cases_Bool (p n)) [
        | inl t ↦
            (let found = any_where-found both n some in
            let parts = and_parts (p found.0) (q found.0) found.2 in
            any_step both n true some ∙ sym (later found.0 n (omega (arith, found.1)) parts.1)
            ∙ sym (ap (λ o. option_map_or q o false) (last_step p n true t)))
        | inr f ↦
            any_step both n true some ∙ sym some ∙ any-last p q n later
            ∙ sym (ap (λ o. option_map_or q o false) (last_step p n false f))
      ]
      | inr none ↦ elim (cases_Bool (p n)) [
        | inl t ↦ any_step both n false none ∙ ap (λ b. b && q n) t
            ∙ sym (ap (λ o. option_map_or q o false) (last_step p n true t))
        | inr f ↦
            any_step both n false none ∙ ap (λ b. b && q n) f ∙ sym none ∙ any-last p q n later
            ∙ sym (ap (λ o. option_map_or q o false) (last_step p n false f))
      ]
    ]
