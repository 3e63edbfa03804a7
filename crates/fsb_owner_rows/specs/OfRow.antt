-- What one row shows of its line.
use Rattle.std.specs.Prelude.{ℕ, nat_eq, nat_lt, Bool, ◌&&◌, ◌||◌, not, if◌then◌else◌, List, Option, Some, None}
use Rattle.std.specs.List.{find, list_any}
use Rattle.std.specs.Option.{option_and_then}
use Rattle.fsb_count.specs.Options.{is_at, is_before, is_some_and}
use Rattle.fsb_line.specs.declared.purpose.Purpose.{Purpose}
use Rattle.fsb_line.specs.States.{gets_line}
use Rattle.fsb_trace.specs.Requests.{is_reply, is_upgrade, is_write_back}
use Rattle.fsb_trace.specs.Winner.{symmetric_after}
use Rattle.fsb_owners.specs.Shown.{purpose_of}
use Rattle.fsb_owner_table.specs.declared.row.Row.{Row}
use Rattle.fsb_owner_table.specs.Kept.{is_row_closed, is_row_dropped}
use Rattle.fsb_owner_table.specs.RowAfter.{is_row_handed}

-- what the request asks of its line
abbrev pub row_purpose : Row → Option Purpose
row_purpose row = option_and_then (λ r. purpose_of r.kind) row.seen.request

-- its agent, where that is a symmetric one
abbrev pub row_agent : Row → Option ℕ
row_agent row = symmetric_after None row.seen.who

-- it names the line
abbrev pub row_names : ℕ → Row → Bool
row_names line row = is_at row.line line && not (is_reply row.seen.request)

-- it is this agent's, and names the line
abbrev pub row_asks : ℕ → ℕ → Row → Bool
row_asks line a row = row_names line row && is_at (row_agent row) a

-- it is another agent's, and names the line
abbrev pub row_asks_other : ℕ → ℕ → Row → Bool
row_asks_other line a row = row_names line row && not (is_at (row_agent row) a)

-- it is outstanding at c
abbrev pub is_row_outstanding : ℕ → Row → Bool
is_row_outstanding c row = nat_lt row.seen.clock c && not (is_reply row.seen.request) && not (is_row_closed row c)

-- it is in flight at c, and has no snoop end before
abbrev pub is_row_open : ℕ → Row → Bool
is_row_open c row =
    nat_lt row.seen.clock c && not (is_row_dropped row c || is_before row.end c)
    && not (is_some_and row.snoop (λ s. nat_lt s.clock c))

-- it is turned away at its snoop end, to be made again or to be answered later
abbrev pub is_row_turned : Row → Bool
is_row_turned row = is_some_and row.snoop (λ s. s.defer && not s.hitm)

-- it has its snoop end before c, and its end is not
abbrev pub is_row_between : ℕ → Row → Bool
is_row_between c row = is_some_and row.snoop (λ s. nat_lt s.clock c) && not (is_before row.end c)

-- the first of the rows whose live reply began at this clock
abbrev pub answered_by : List Row → ℕ → Option Row
answered_by rows reply = find (λ row. is_at row.reply reply) rows

-- the row of the request that counts at this one: of a reply the first that it answers, else itself
abbrev pub row_origin : List Row → Row → Option Row
row_origin rows row = if is_reply row.seen.request then answered_by rows row.seen.clock else Some row

-- the request of the row, of which this one counts, is to have the bytes of its line
abbrev pub row_brings : Row → Row → Bool
row_brings row origin =
    is_reply row.seen.request || (is_row_handed row && not (is_write_back row.seen.request))
    || (not (is_row_turned row) && is_some_and (row_purpose origin) gets_line)

-- bytes of the line are under way to the agent at c by the request of the row
abbrev pub row_comes : List Row → ℕ → ℕ → ℕ → Row → Bool
row_comes rows line a c row =
    is_some_and (row_origin rows row) (λ origin. row_asks line a origin && row_brings row origin) && is_row_between c row

-- the row is of an upgrade of the line by the agent, and c lies from its first clock to its last one as outstanding
abbrev pub row_upgrades : ℕ → ℕ → ℕ → Row → Bool
row_upgrades line a c row =
    row_asks line a row && is_upgrade row.seen.request && (nat_eq row.seen.clock c || is_row_outstanding c row)

-- the line that it names; a reply names none
abbrev pub row_line : Row → Option ℕ
row_line row = if is_reply row.seen.request then None else row.line

-- one of the rows names the line
abbrev pub is_named_line : List Row → ℕ → Bool
is_named_line rows line = list_any (row_names line) rows
