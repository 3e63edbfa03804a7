-- The rows and the clocks of which they tell.
use Rattle.std.specs.Prelude.{◌≡◌, ◌<◌, ◌≤◌, ℕ, ◌+◌, List, length, Option}
use Rattle.fsb_count.specs.Clocks.{first_where}
use Rattle.fsb_count.specs.Options.{is_at}
use Rattle.fsb_trace.specs.At.{Trace}
use Rattle.fsb_trace.specs.Outcome.{response_clock_of}
use Rattle.fsb_trace.specs.Requests.{live_count}
use Rattle.fsb_laws.specs.Orderly.{Orderly}
use Rattle.fsb_owner_table.specs.declared.row.Row.{Row}
use Rattle.fsb_owner_table.specs.Kept.{rows_of}

-- the rows are those that are kept of v, and c is one of its last three clocks
pub record AreKeptAt (rows : List Row) (v : Trace) (c : ℕ) : Type 0 where
  pub kept : rows ≡ rows_of v
  pub orderly : Orderly v
  pub late : length v ≤ c + 3
  pub within : c < length v

-- the live request that responds at c
unfoldable pub answered_at : Trace → ℕ → Option ℕ
answered_at v c = first_where (λ j. is_at (response_clock_of v j) c) (live_count v)
