-- What the rows of a trace show of the requests that are not over.
use Rattle.std.specs.Prelude.{◌≡◌, ℕ, ◌+◌, Bool, true, ◌&&◌, ◌||◌, not, is_some, List, ◌∷◌, ◌++◌, [], Option, length}
use Rattle.std.specs.List.{list_any}
use Rattle.fsb_count.specs.Options.{is_before}
use Rattle.fsb_encode.specs.declared.request.Request.{Request}
use Rattle.fsb_signal.specs.declared.lines.TheConstants.Lines.{ADS}
use Rattle.fsb_signal.specs.declared.sample.Sample.{Sample}
use Rattle.fsb_signal.specs.Samples.{line_at}
use Rattle.fsb_trace.specs.declared.who.Who.{Who}
use Rattle.fsb_trace.specs.At.{Trace, request_at}
use Rattle.fsb_trace.specs.Requests.{have_same_id, is_reply}
use Rattle.fsb_trace.specs.Winner.{is_agent, winner_at}
use Rattle.fsb_laws.specs.Orderly.{Orderly}
use Rattle.fsb_owner_table.specs.declared.row.Row.{Row}
use Rattle.fsb_owner_table.specs.Kept.{is_row_closed, is_row_dropped, rows_of}
use Rattle.fsb_owner_table.specs.RowAfter.{is_row_deferred}
use Rattle.fsb_owner_feed.specs.declared.table.Table.{Table}
use Rattle.fsb_owner_feed.specs.Table.{Stands}

-- clock n comes after a trace that the table stands for, whose requests keep their distance and
-- responses their time
pub record IsAfter (table : Table) (n : ℕ) (h : Trace) : Type 0 where
  pub stands : Stands table h
  pub orderly : Orderly h
  pub clock : n ≡ length h

-- the rows are those of h, and with its last clock q this request of this agent begins, which is
-- decoded with the sample x
pub record IsFirstClock (rows : List Row) (q : ℕ) (who : Option Who) (request : Option Request) (h : Trace) (x : Sample) : Type 0 where
  pub kept : rows ≡ rows_of h
  pub orderly : Orderly h
  pub last : length h ≡ q + 1
  pub asks : line_at ADS h q ≡ true
  pub winner : who ≡ winner_at h q
  pub decoded : request ≡ request_at (h ++ x ∷ []) q

-- it is in flight at c
abbrev pub is_row_in_flight : ℕ → Row → Bool
is_row_in_flight c row = not (is_row_dropped row c || is_before row.end c)

-- it is outstanding at c
abbrev pub is_row_unfinished : ℕ → Row → Bool
is_row_unfinished c row = not (is_reply row.seen.request) && not (is_row_closed row c)

-- and has the ID of this request
abbrev pub row_takes : ℕ → Option Request → Row → Bool
row_takes c request row = is_row_unfinished c row && have_same_id row.seen.request request

-- and is of this agent
abbrev pub is_row_of : ℕ → Who → Row → Bool
is_row_of c who row = is_row_unfinished c row && is_agent row.seen.who who

-- the other request is a reply to it
abbrev pub is_row_reply_to : Row → Row → Bool
is_row_reply_to row other =
    is_reply other.seen.request
    && (have_same_id other.seen.request row.seen.request && is_before row.response other.seen.clock)

-- one that was cancelled, and is in flight at c all the same
abbrev pub is_row_answering : Row → ℕ → Row → Bool
is_row_answering row c other = other.seen.cancelled && (is_row_in_flight c other && is_row_reply_to row other)

-- a reply to it is live, or in flight at c
abbrev pub is_row_answered : List Row → ℕ → Row → Bool
is_row_answered rows c row = is_some row.reply || list_any (is_row_answering row c) rows

-- it is Deferred, and awaits this reply at c
abbrev pub row_awaits : List Row → ℕ → Option Request → Row → Bool
row_awaits rows c reply row =
    is_row_deferred row
    && (have_same_id row.seen.request reply && (is_before row.response c && not (is_row_answered rows c row)))
