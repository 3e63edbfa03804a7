-- A log.
use Rattle.std.specs.Prelude.{ℕ, List}
use Rattle.fsb_access.specs.declared.log.Done.{Done}

-- a log: its entries in order, and how many more it has room for without memory
pub record LogView : Type 0 where
  pub entries : List Done
  pub spare : ℕ
