-- What is found with one clock more.
use Rattle.std.specs.Prelude.{ℕ, Bool, Option, Some, None}
use Rattle.std.specs.Option.{option_map}
use Rattle.fsb_owners.specs.Least.{least_at}

-- what was found, or else the least rule below the bound that is broken at clock n
abbrev pub or_at : (ℕ → ℕ → Bool) → ℕ → ℕ → Option (ℕ × ℕ) → Option (ℕ × ℕ)
or_at is_broken bound n None = option_map {U = ℕ × ℕ} (λ j. (n, j)) (least_at is_broken bound n)
or_at is_broken bound n (Some found) = Some found
