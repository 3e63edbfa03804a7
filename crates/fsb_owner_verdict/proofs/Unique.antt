-- The least broken rule is the one that is broken while none before it is.
use Rattle.std.proofs.Common.{ℕ, Bool, ◌<◌, ◌≡◌, true, false, Option, Some, None, refl, arith}
use Rattle.std.specs.Option.{option_and_then, option_map}
use Rattle.std.proofs.lemmas.Option.{some_pair_parts}
use Rattle.fsb_count.specs.Clocks.{first_where}
use Rattle.fsb_count.proofs.Interface.{first_where-at, first_where-found, first_where-off}
use Rattle.fsb_owners.specs.Least.{is_some_broken, least_at, least_broken}

at_clock : (p : ℕ → ℕ → Bool) (m c j : ℕ) → j < m → p c j ≡ true → ((k : ℕ) → k < j → p c k ≡ false)
    → least_at p m c ≡ Some j
unfolding least_at
at_clock p m c j l t f = first_where-at (p c) m j l t f

some_at : (p : ℕ → ℕ → Bool) (m c j : ℕ) → least_at p m c ≡ Some j → is_some_broken p m c ≡ true
unfolding is_some_broken
some_at p m c j e = rw e refl

none_at : (p : ℕ → ℕ → Bool) (m d : ℕ) → ((k : ℕ) → k < m → p d k ≡ false) → is_some_broken p m d ≡ false
unfolding is_some_broken least_at
none_at p m d f = rw (first_where-off (p d) m f) refl

pub least_broken-is : (p : ℕ → ℕ → Bool) (m n c j : ℕ) → c < n → j < m → p c j ≡ true
    → ((k : ℕ) → k < j → p c k ≡ false) → ((d k : ℕ) → d < c → k < m → p d k ≡ false)
    → least_broken p m n ≡ Some (c, j)
unfolding least_broken
least_broken-is p m n c j l low t here before =
    let rule = at_clock p m c j low t here in
    rw (
      first_where-at (is_some_broken p m) n c l (some_at p m c j rule) (λ d below. none_at p m d (λ k. before d k below)),
      rule,
    ) refl

pub least_broken-off : (p : ℕ → ℕ → Bool) (m n : ℕ) → ((d k : ℕ) → d < n → k < m → p d k ≡ false)
    → least_broken p m n ≡ None
unfolding least_broken
least_broken-off p m n f = rw (first_where-off (is_some_broken p m) n (λ d l. none_at p m d (λ k. f d k l))) refl

-- the rule of the least one lies below the bound
rule_below : (p : ℕ → ℕ → Bool) (m n c j d : ℕ) (o : Option ℕ) → least_at p m d ≡ o
    → option_map {U = ℕ × ℕ} (λ k. (d, k)) o ≡ Some (c, j) → j < m
unfolding least_at
rule_below p m n c j d None e f = absurd (let no : ⊥ = cc in no)
rule_below p m n c j d (Some k) e f =
    let parts = some_pair_parts d c k j f in
    let low = (first_where-found (p d) m k e).0 in omega (arith, low, parts.1)

clock_below : (p : ℕ → ℕ → Bool) (m n c j : ℕ) (o : Option ℕ)
    → option_and_then (λ d. option_map {U = ℕ × ℕ} (λ k. (d, k)) (least_at p m d)) o ≡ Some (c, j) → j < m
clock_below p m n c j None e = absurd (let no : ⊥ = cc in no)
clock_below p m n c j (Some d) e = rule_below p m n c j d (least_at p m d) refl e

pub least_broken-below : (p : ℕ → ℕ → Bool) (m n c j : ℕ) → least_broken p m n ≡ Some (c, j) → j < m
unfolding least_broken
least_broken-below p m n c j e = clock_below p m n c j (first_where (is_some_broken p m) n) e
