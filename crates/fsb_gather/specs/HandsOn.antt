-- What is handed on of bytes that are gathered.
use Rattle.std.specs.Prelude.{◌≡◌, ℕ, List, ◌++◌}

-- the first of the gathered bytes stand behind what the sink below held, and the others are still gathered, in their order
pub record HandsOn (gathered left old new : List ℕ) : Type 0 where
  pub part : List ℕ
  pub whole : gathered ≡ part ++ left
  pub appended : new ≡ old ++ part
