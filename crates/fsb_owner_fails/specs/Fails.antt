-- Which line a response spoils.
use Rattle.std.specs.Prelude.{◌≡◌, ℕ, Bool, ◌&&◌, Some}
use Rattle.fsb_count.specs.Options.{is_some_and}
use Rattle.fsb_trace.specs.At.{Trace}
use Rattle.fsb_trace.specs.Outcome.{outcome_of}
use Rattle.fsb_trace.specs.Requests.{live_clock_of}
use Rattle.fsb_owners.specs.Shown.{is_failure, is_for_line}
use Rattle.fsb_owner_table.specs.declared.row.Row.{Row}
use Rattle.fsb_owner_table.specs.Rows.{row_at}
use Rattle.fsb_owner_rows.specs.Kept.{answered_at}

-- live request j is for the line and failed hard
unfoldable pub fails_for : Trace → ℕ → ℕ → Bool
fails_for v line j = is_for_line v line j && is_some_and (outcome_of v j) is_failure

-- the live request that responds at c is for the line and fails hard
unfoldable pub fails_at : Trace → ℕ → ℕ → Bool
fails_at v c line = is_some_and (answered_at v c) (fails_for v line)

-- the request of the row failed hard
abbrev pub is_row_failed : Row → Bool
is_row_failed row = is_some_and row.outcome is_failure

-- it is the row of live request j, which begins at q and responds at c
pub record IsAnswered (v : Trace) (c j q : ℕ) (row : Row) : Type 0 where
  pub answered : answered_at v c ≡ Some j
  pub clock : live_clock_of v j ≡ Some q
  pub is : row ≡ row_at v q
