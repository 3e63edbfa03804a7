-- Two rows, of which the line of the first is deferred and given to the second.
use Rattle.std.specs.Prelude.{◌≡◌, ℕ, nat_lt, Bool, ◌&&◌, ◌||◌, not, is_some, List, Option, None, length}
use Rattle.std.specs.List.{list_any}
use Rattle.fsb_count.specs.Options.{is_at, is_before, is_some_and}
use Rattle.fsb_line.specs.States.{asks_line}
use Rattle.fsb_signal.specs.declared.sample.Sample.{Sample}
use Rattle.fsb_trace.specs.At.{Trace}
use Rattle.fsb_laws.specs.OneMore.{OneMore}
use Rattle.fsb_laws.specs.Orderly.{Orderly}
use Rattle.fsb_owners.specs.Joint.{Joint}
use Rattle.fsb_owners.specs.Rules.{ownership_verdict}
use Rattle.fsb_owners.specs.Shown.{is_spoiled}
use Rattle.fsb_owner_table.specs.declared.row.Row.{Row}
use Rattle.fsb_owner_table.specs.RowAfter.{is_row_deferred, is_row_handed}
use Rattle.fsb_owner_rows.specs.Kept.{AreKeptAt}
use Rattle.fsb_owner_rows.specs.OfRow.{row_agent, row_line, row_names, row_purpose}
use Rattle.fsb_owner_judge.specs.declared.judge.OwnerJudge.{OwnerJudge}
use Rattle.fsb_owner_judge.specs.Judge.{is_spoiled_for}

-- the line fails now, or is kept as spoiled
abbrev pub is_spoiled_now : OwnerJudge → Option ℕ → ℕ → Bool
is_spoiled_now judge failed line = is_at failed line || is_spoiled_for judge line

-- the second row has its snoop end between that of the first one and that of its reply
abbrev pub asks_between : Row → Row → Bool
asks_between row other =
    is_some_and row.snoop (λ t. is_some_and other.snoop (λ s. nat_lt t.clock s.clock && not (is_before row.reply_snoop s.clock)))

-- the row names a line by a symmetric agent that is not spoiled, and the other one names it too
abbrev pub has_judged_line : (ℕ → Bool) → Row → Row → Bool
has_judged_line spoiled row other =
    is_some_and (row_line row) (λ line. not (spoiled line) && is_some (row_agent row) && row_names line other)

-- the request of the row asks for its line
abbrev pub row_asks_line : Row → Bool
row_asks_line row = is_some_and (row_purpose row) asks_line

-- neither DEFER# nor HITM# is asserted at its snoop end, or it is Deferred
abbrev pub is_row_served : Row → Bool
is_row_served row =
    (not (is_some_and row.snoop (λ s. s.defer)) && not (is_row_handed row)) || is_row_deferred row

-- the line of the first row, if it is deferred, is given to the second one
abbrev pub is_given_to : (ℕ → Bool) → Row → Row → Bool
is_given_to spoiled row other =
    asks_between row other && has_judged_line spoiled row other && row_asks_line other && is_row_served other

-- the line of the row is deferred and given to one of these
abbrev pub row_given : List Row → (ℕ → Bool) → Row → Bool
row_given rows spoiled row = is_row_deferred row && list_any (is_given_to spoiled row) rows

-- v is h and then the sample x, no rule of ownership is broken in h, the rows are those of v, and the judge and the failure with
-- x tell which lines are spoiled in v
pub record KnowsPast (first : List Joint) (h : Trace) (x : Sample) (v : Trace) (rows : List Row) (judge : OwnerJudge) (failed : Option ℕ) : Type 0 where
  pub more : OneMore h x v
  pub before : Orderly h
  pub kept : AreKeptAt rows v (length h)
  pub unbroken : ownership_verdict first h ≡ None
  pub spoiled : (line : ℕ) → is_spoiled_for judge line ≡ is_spoiled h line
  pub fails : (line : ℕ) → is_spoiled v line ≡ (is_at failed line || is_spoiled h line)
