-- Snoop ends, by the rows of their requests.
use Rattle.std.specs.Prelude.{◌≡◌, ℕ, Some}
use Rattle.fsb_trace.specs.At.{Trace}
use Rattle.fsb_trace.specs.Requests.{live_clock_of}
use Rattle.fsb_owners.specs.Shown.{origin_clock_of, snooped_at}
use Rattle.fsb_owner_table.specs.declared.row.Row.{Row}
use Rattle.fsb_owner_table.specs.Rows.{row_at}

-- it is the row of live request j, which begins at q and has its snoop end at c
pub record IsSnooped (v : Trace) (c j q : ℕ) (row : Row) : Type 0 where
  pub snooped : snooped_at v c ≡ Some j
  pub clock : live_clock_of v j ≡ Some q
  pub is : row ≡ row_at v q

-- and this is the row of the request that counts there, which begins at p
pub record IsOrigin (v : Trace) (c j q p : ℕ) (row origin : Row) : Type 0 where
  pub ends : IsSnooped v c j q row
  pub counts : origin_clock_of v j ≡ Some p
  pub is : origin ≡ row_at v p
