-- The order in which the chunks of a line come.
use Rattle.std.specs.Prelude.{ℕ, zero, suc, List, [], ◌∷◌}

-- the chunks in the order in which they come where this one comes first
unfoldable pub burst_order : ℕ → List ℕ
burst_order zero = 0 ∷ 1 ∷ 2 ∷ 3 ∷ []
burst_order (suc zero) = 1 ∷ 0 ∷ 3 ∷ 2 ∷ []
burst_order (suc (suc zero)) = 2 ∷ 3 ∷ 0 ∷ 1 ∷ []
burst_order (suc (suc (suc n))) = 3 ∷ 2 ∷ 1 ∷ 0 ∷ []
