-- Symmetric agents.
use Rattle.std.specs.Prelude.{ℕ, ◌<◌, Option, Some, None}

-- the agent, if there is one, is one of four
abbrev pub IsOneOfFour : Option ℕ → Type 0
IsOneOfFour None = Unit
IsOneOfFour (Some agent) = agent < 4
