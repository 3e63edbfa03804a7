-- What was taken of a source that was not read to its end.
use Rattle.std.specs.Prelude.{◌≡◌, ◌≤◌, ℕ, List, ◌++◌, length}

-- the first bytes of what was left were taken, at most so many of them, and the others are left
pub record TakesAtMost (most : ℕ) (old new : List ℕ) : Type 0 where
  pub taken : List ℕ
  pub whole : old ≡ taken ++ new
  pub within : length taken ≤ most
