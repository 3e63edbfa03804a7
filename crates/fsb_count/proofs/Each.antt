-- What every clock below n passes.
use Rattle.std.proofs.Common.{ℕ, zero, suc, ◌<◌, ◌≡◌, Bool, true, refl, arith, below_more}
use Rattle.std.proofs.lemmas.Bool.{and_parts}
use Rattle.fsb_count.specs.Clocks.{each_where}

-- each clock below n passes
pub each_where-at : (test : ℕ → Bool) (n : ℕ) → each_where test n ≡ true → (c : ℕ) → c < n → test c ≡ true
unfolding each_where
each_where-at test zero e c l = absurd (omega arith)
each_where-at test (suc n) e c l =
    let parts = and_parts (each_where test n) (test n) e in
    below_more (λ m. test m ≡ true) n (each_where-at test n parts.0) parts.1 c (omega arith)

-- all clocks below n pass
pub each_where-all : (test : ℕ → Bool) (n : ℕ) → ((c : ℕ) → c < n → test c ≡ true) → each_where test n ≡ true
unfolding each_where
each_where-all test zero h = refl
each_where-all test (suc n) h = rw (each_where-all test n (λ c l. h c (omega arith)), h n (omega arith)) refl
