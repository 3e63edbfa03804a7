-- What stands in a sink after a text was written in part.
use Rattle.std.specs.Prelude.{◌≡◌, ℕ, List, ◌++◌}

-- new is old with a first part of the text appended
pub record AppendsPart (text old new : List ℕ) : Type 0 where
  pub part : List ℕ
  pub rest : List ℕ
  pub whole : text ≡ part ++ rest
  pub appended : new ≡ old ++ part
