-- What a contract sees of a `MemSink`.
use Rattle.std.specs.Prelude.{ℕ, List, Option}
use Rattle.fsb_io.specs.Tally.{Tally}

-- the bytes that it holds, the name begun last, how many bytes it takes at most, and its calls
pub record SinkView : Type 0 where
  pub holds : List ℕ
  pub begun_as : Option (List ℕ)
  pub room : ℕ
  pub tally : Tally
