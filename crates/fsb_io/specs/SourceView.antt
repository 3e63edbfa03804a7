-- What a contract sees of a `MemSource`.
use Rattle.std.specs.Prelude.{ℕ, List, Option}
use Rattle.fsb_io.specs.Tally.{Tally}

-- the bytes that it holds, those that are left to read, the name begun last, and its calls
pub record SourceView : Type 0 where
  pub holds : List ℕ
  pub left : List ℕ
  pub begun_as : Option (List ℕ)
  pub tally : Tally
