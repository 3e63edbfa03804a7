-- What a contract sees of a `Gather`.
use Rattle.std.specs.Prelude.{ℕ, List}

-- the sink below, and the bytes that are still to be handed on to it
pub record GatherView (D : Type 0) : Type 0 where
  pub sink : D
  pub gathered : List ℕ
