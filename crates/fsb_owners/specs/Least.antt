-- The least clock at which a rule is broken, and the least rule there.
use Rattle.std.specs.Prelude.{ℕ, Bool, is_some, Option}
use Rattle.std.specs.Option.{option_map, option_and_then}
use Rattle.fsb_count.specs.Clocks.{first_where}

-- the least rule below the bound that is broken at c
unfoldable pub least_at : (ℕ → ℕ → Bool) → ℕ → ℕ → Option ℕ
least_at is_broken bound c = first_where (is_broken c) bound

-- some rule below the bound is broken at c
unfoldable pub is_some_broken : (ℕ → ℕ → Bool) → ℕ → ℕ → Bool
is_some_broken is_broken bound c = is_some (least_at is_broken bound c)

-- the least clock below n at which a rule below the bound is broken, and the least such rule there
unfoldable pub least_broken : (ℕ → ℕ → Bool) → ℕ → ℕ → Option (ℕ × ℕ)
least_broken is_broken bound n =
    option_and_then (λ c. option_map {U = ℕ × ℕ} (λ j. (c, j)) (least_at is_broken bound c))
    (first_where (is_some_broken is_broken bound) n)
