-- What the least broken rule says, and that it stays where more clocks follow.
use Rattle.std.proofs.Common.{ℕ, Bool, ◌<◌, ◌≤◌, ◌≡◌, true, false, Option, Some, None, is_some, refl, sym, ap, ◌∙◌, arith}
use Rattle.std.specs.Option.{option_and_then, option_map}
use Rattle.std.proofs.lemmas.Option.{some_pair_parts}
use Rattle.fsb_count.specs.Clocks.{first_where}
use Rattle.fsb_count.proofs.Interface.{first_where-same, first_where-carried, first_where-found, first_where-none}
use Rattle.fsb_owners.specs.Least.{is_some_broken, least_at, least_broken}

-- the first clock is this one, and its least rule that one
Least : (ℕ → ℕ → Bool) → ℕ → ℕ → ℕ → ℕ → Type 0
Least p m n c j = (first_where (is_some_broken p m) n ≡ Some c) × (least_at p m c ≡ Some j)

with_rule : (p : ℕ → ℕ → Bool) (m n c j d : ℕ) (o : Option ℕ) → first_where (is_some_broken p m) n ≡ Some d
    → least_at p m d ≡ o → option_map {U = ℕ × ℕ} (λ k. (d, k)) o ≡ Some (c, j) → Least p m n c j
unfolding Least
with_rule p m n c j d None e f h = absurd (let no : ⊥ = cc in no)
with_rule p m n c j d (Some k) e f h =
    let parts = some_pair_parts d c k j h in
    (e ∙ ap (λ x. Some x) parts.0, ap (least_at p m) (sym parts.0) ∙ f ∙ ap (λ x. Some x) parts.1)

with_clock : (p : ℕ → ℕ → Bool) (m n c j : ℕ) (o : Option ℕ) → first_where (is_some_broken p m) n ≡ o
    → option_and_then (λ d. option_map {U = ℕ × ℕ} (λ k. (d, k)) (least_at p m d)) o ≡ Some (c, j) → Least p m n c j
with_clock p m n c j None e h = absurd (let no : ⊥ = cc in no)
with_clock p m n c j (Some d) e h = with_rule p m n c j d (least_at p m d) e refl h

found : (p : ℕ → ℕ → Bool) (m n c j : ℕ) → least_broken p m n ≡ Some (c, j) → Least p m n c j
unfolding least_broken
found p m n c j e = with_clock p m n c j (first_where (is_some_broken p m) n) refl e

from_parts : (p : ℕ → ℕ → Bool) (m n c j : ℕ) → Least p m n c j → least_broken p m n ≡ Some (c, j)
unfolding Least least_broken
from_parts p m n c j h = rw (h.0, h.1) refl

same_at : (p q : ℕ → ℕ → Bool) (m c : ℕ) → ((j : ℕ) → p c j ≡ q c j) → least_at p m c ≡ least_at q m c
unfolding least_at
same_at p q m c same = first_where-same (p c) (q c) m (record { same = λ j l. same j })

-- where two tests agree up to the clock, both have the same least rule there
pub least_broken-stays : (p q : ℕ → ℕ → Bool) (m n k c j : ℕ) → ((d i : ℕ) → d ≤ c → p d i ≡ q d i) → c < k
    → least_broken p m n ≡ Some (c, j) → least_broken q m k ≡ Some (c, j)
unfolding Least is_some_broken
least_broken-stays p q m n k c j same l e =
    let parts = found p m n c j e in
    from_parts q m k c j (
      first_where-carried (is_some_broken p m) (is_some_broken q m) n k c
          (record { same = λ d below. ap (λ o. is_some o) (same_at p q m d (λ i. same d i (omega (arith, below)))) }) l parts.0,
      sym (same_at p q m c (λ i. same c i (omega arith))) ∙ parts.1,
    )

not_some : (o : Option ℕ) → is_some o ≡ false → o ≡ None
not_some None f = refl
not_some (Some j) f = absurd (let no : ⊥ = cc in no)

unbroken : (p : ℕ → ℕ → Bool) (m c j : ℕ) → is_some_broken p m c ≡ false → j < m → p c j ≡ false
unfolding is_some_broken least_at
unbroken p m c j f l = first_where-none (p c) m (not_some (first_where (p c) m) f) j l

-- the least one is broken; none before it at its clock, and none at an earlier clock
pub least_broken-least : (p : ℕ → ℕ → Bool) (m n c j : ℕ) → least_broken p m n ≡ Some (c, j)
    → (c < n) × (p c j ≡ true) × ((k : ℕ) → k < j → p c k ≡ false) × ((d k : ℕ) → d < c → k < m → p d k ≡ false)
unfolding Least least_at
least_broken-least p m n c j e =
    let parts = found p m n c j e in
    let clock = first_where-found (is_some_broken p m) n c parts.0 in
    let rule = first_where-found (p c) m j parts.1 in
    (clock.0, rule.1, rule.2, λ d k l below. unbroken p m d k (clock.2 d l) below)

some_rule : (p : ℕ → ℕ → Bool) (m n c : ℕ) (o : Option ℕ) → least_at p m c ≡ o → is_some o ≡ true
    → first_where (is_some_broken p m) n ≡ Some c → least_broken p m n ≡ None → ⊥
unfolding Least
some_rule p m n c None e t f h = let no : ⊥ = cc in no
some_rule p m n c (Some j) e t f h = let there : least_broken p m n ≡ Some (c, j) = from_parts p m n c j (f, e) in
    let no : ⊥ = cc in no

no_clock : (p : ℕ → ℕ → Bool) (m n : ℕ) (o : Option ℕ) → first_where (is_some_broken p m) n ≡ o
    → least_broken p m n ≡ None → first_where (is_some_broken p m) n ≡ None
unfolding is_some_broken
no_clock p m n None e h = e
no_clock p m n (Some c) e h =
    absurd (some_rule p m n c (least_at p m c) refl (first_where-found (is_some_broken p m) n c e).1 e h)

-- where there is none, no rule is broken at any clock
pub least_broken-none : (p : ℕ → ℕ → Bool) (m n : ℕ) → least_broken p m n ≡ None
    → (c j : ℕ) → c < n → j < m → p c j ≡ false
least_broken-none p m n h c j below low =
    let none = no_clock p m n (first_where (is_some_broken p m) n) refl h in
    unbroken p m c j (first_where-none (is_some_broken p m) n none c below) low
