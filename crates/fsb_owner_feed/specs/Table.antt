-- For which traces a table stands, and what it finds of them.
use Rattle.std.specs.Prelude.{◌≡◌, ◌≤◌, ℕ, suc, ◌+◌, Bool, true, false, ◌&&◌, not, is_none, is_some, Option, Some, None, length, [], ◌∷◌, ◌++◌}
use Rattle.fsb_count.specs.Options.{is_at, is_some_and}
use Rattle.fsb_signal.specs.declared.sample.Sample.{Sample}
use Rattle.fsb_signal.specs.Samples.{response_of}
use Rattle.fsb_trace.specs.At.{Trace}
use Rattle.fsb_trace.specs.Requests.{live_clock_of}
use Rattle.fsb_trace.specs.Snoop.{snoop_end_of}
use Rattle.fsb_arbiter.specs.Arbiter.{Stands as ArbiterStands}
use Rattle.fsb_heads.specs.Heads.{Stands as HeadsStands, snooped_count}
use Rattle.fsb_laws.specs.OneMore.{responds}
use Rattle.fsb_laws.specs.Orderly.{Orderly}
use Rattle.fsb_laws.specs.Progress.{response_count, transfer_of}
use Rattle.fsb_trace.specs.Outcome.{does_move}
use Rattle.fsb_owner_table.specs.Happened.{reaches}
use Rattle.fsb_owner_table.specs.RowAfter.{row_told_by}
use Rattle.fsb_owner_table.specs.declared.row.Row.{Row}
use Rattle.fsb_owner_table.specs.Kept.{Stands as RowsStand}
use Rattle.fsb_owner_table.specs.Rows.{row_at}
use Rattle.fsb_owner_feed.specs.declared.table.Table.{Table}
use Rattle.fsb_owner_feed.specs.Begins.{SaysBegins}

-- the request waits for its snoop end
abbrev pub is_row_asking : Row → Bool
is_row_asking row = not row.seen.cancelled && is_none row.snoop

-- it waits for its response
abbrev pub is_row_waiting : Row → Bool
is_row_waiting row = is_some row.snoop && is_none row.response

-- its data are on the way
abbrev pub is_row_moving : Row → Bool
is_row_moving row = is_some row.response && is_none row.end

-- it is the row of live request i, which is decoded
pub record IsRowOf (h : Trace) (i : ℕ) (row : Row) : Type 0 where
  pub clock : live_clock_of h i ≡ Some row.seen.clock
  pub is : row ≡ row_at h row.seen.clock

-- it is the row of the request that is snooped next, or none that is decoded is
abbrev pub SaysAsking : Trace → Option Row → Type 0
SaysAsking h None = (q : ℕ) → live_clock_of h (snooped_count h) ≡ Some q → length h ≤ q + 1
SaysAsking h (Some row) = IsRowOf h (snooped_count h) row

-- it is the row of the request that responds next, or none has its snoop end
abbrev pub SaysWaiting : Trace → Option Row → Type 0
SaysWaiting h None = snoop_end_of h (response_count h) ≡ None
SaysWaiting h (Some row) = IsRowOf h (response_count h) row

-- it is the row of the request that responded last, or no data are on the way
abbrev pub SaysMoving : Trace → Option Row → Type 0
SaysMoving h None = transfer_of h ≡ None
SaysMoving h (Some row) = (i : ℕ) × (response_count h ≡ suc i) × IsRowOf h i row

-- the table was fed these samples
pub record Stands (table : Table) (h : Trace) : Type 0 where
  pub rows : RowsStand table.rows h
  pub arbiter : ArbiterStands table.arbiter h
  pub heads : HeadsStands table.heads h
  pub begins : SaysBegins table.begins h
  pub clock : table.clock ≡ length h

-- the sample comes after a trace that the table stands for, and requests keep their distance and responses their time in both
pub record ComesNext (table : Table) (x : Sample) (h : Trace) : Type 0 where
  pub stands : Stands table h
  pub before : Orderly h
  pub after : Orderly (h ++ x ∷ [])

-- it is the first clock of the request whose clock is n, or no request's clock is
abbrev pub IsReached : (Trace → ℕ → Option ℕ) → Option ℕ → Trace → ℕ → Type 0
IsReached clock_of found v n = (q : ℕ) → is_at found q ≡ reaches clock_of v n q

-- the sample, after h, is the response of the request with this row; or it is none
abbrev pub SaysAnswered : Sample → Trace → Option Row → Type 0
SaysAnswered x h None = responds x ≡ false
SaysAnswered x h (Some row) = (responds x ≡ true) × IsRowOf h (response_count h) row

-- there is such a row, and data move with a response of its request that is the sample
abbrev pub moves_by : Option Row → Sample → Bool
moves_by row x = is_some_and row (λ r. does_move (row_told_by r (response_of x)))

-- how many samples the table was fed
abbrev pub fed : Table → ℕ
fed table = table.clock
