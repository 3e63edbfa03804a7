-- What a row has in each column, as text.
use Rattle.std.specs.Prelude.{ℕ, ◌+◌, ◌-◌, ◌*◌, ◌^◌, min, Bool, true, false, ◌||◌, if◌then◌else◌, List, [], ◌++◌, codes, decimal, Option, Some, None, option_map}
use Rattle.fsb_io.specs.NumberText.{hexadecimal}
use Rattle.fsb_encode.specs.declared.request.Kind.{Kind}
use Rattle.fsb_encode.specs.declared.request.Kind.TheVariants as kinds
use Rattle.fsb_encode.specs.declared.request.Request.{Request}
use Rattle.fsb_trace.specs.declared.outcome.Outcome.{Outcome}
use Rattle.fsb_trace.specs.declared.outcome.Outcome.TheVariants as outcomes
use Rattle.fsb_trace.specs.declared.who.Who.{Who}
use Rattle.fsb_trace.specs.declared.who.Who.TheVariants.{Symmetric, Priority}
use Rattle.fsb_trace.specs.Requests.{is_reply_kind}
use Rattle.fsb_owner_table.specs.declared.row.Row.{Row}
use Rattle.fsb_owner_table.specs.declared.row.Snooped.{Snooped}
use Rattle.row_texts.specs.declared.column.Column.{Column}
use Rattle.row_texts.specs.declared.column.Column.TheVariants as columns

-- a clock, which comes behind so many; nothing where there is none
unfoldable pub clock_text : ℕ → Option ℕ → List ℕ
clock_text before None = []
clock_text before (Some clock) = decimal (before + clock)

-- how many clocks the second comes behind the first, where both are there
unfoldable pub between_text : Option ℕ → Option ℕ → List ℕ
between_text None end = []
between_text (Some begin) None = []
between_text (Some begin) (Some end) = decimal (end - begin)

-- who began a request: the number of a symmetric agent, or p
unfoldable pub agent_text : Option Who → List ℕ
agent_text None = []
agent_text (Some (Symmetric agent)) = decimal agent
agent_text (Some Priority) = codes "p"

unfoldable pub kind_word : Kind → List ℕ
kind_word kinds.Reply = codes "reply"
kind_word kinds.Invalidate = codes "invalidate"
kind_word kinds.Read = codes "read"
kind_word kinds.WriteBack = codes "writeback"
kind_word kinds.Upgrade = codes "upgrade"

-- the kind of a request, once it is decoded
unfoldable pub kind_text : Option Request → List ℕ
kind_text None = []
kind_text (Some request) = kind_word request.kind

-- the address of a line, of at most 64 bits
abbrev pub address_of : ℕ → ℕ
address_of line = min (line * 32) (2 ^ 64 - 1)

-- what a request names: the address of its line, or, of a reply, the deferred ID
unfoldable pub target_text : Option Request → List ℕ
target_text None = []
target_text (Some request) =
    if is_reply_kind request.kind then codes "ID " ++ decimal request.did else hexadecimal (address_of request.line)

-- the name of a line that is asserted, behind a space where something stands before it
unfoldable pub sign_text : Bool → List ℕ → Bool → List ℕ
sign_text behind name false = []
sign_text behind name true = (if behind then codes " " else []) ++ name

-- which of HIT#, HITM# and DEFER# are asserted at a snoop end
unfoldable pub signs_text : Bool → Option Snooped → List ℕ
signs_text behind None = []
signs_text behind (Some s) =
    sign_text behind (codes "HIT") s.hit ++ sign_text (behind || s.hit) (codes "HITM") s.hitm
    ++ sign_text ((behind || s.hit) || s.hitm) (codes "DEFER") s.defer

unfoldable pub outcome_word : Outcome → List ℕ
outcome_word outcomes.Granted = codes "granted"
outcome_word outcomes.Handed = codes "handed"
outcome_word outcomes.Retried = codes "retried"
outcome_word outcomes.Deferred = codes "deferred"
outcome_word outcomes.Written = codes "written"
outcome_word outcomes.Replied = codes "replied"
outcome_word outcomes.Failed = codes "failed"
outcome_word outcomes.Upgraded = codes "upgraded"

-- the outcome that is told, or that an address error cancelled the request
unfoldable pub outcome_text : Bool → Option Outcome → List ℕ
outcome_text cancelled None = if cancelled then codes "aerr" else []
outcome_text cancelled (Some outcome) = outcome_word outcome

-- the clock of a snoop end
abbrev pub snoop_clock : Option Snooped → Option ℕ
snoop_clock snoop = option_map (λ s. s.clock) snoop

-- what a row has in a column, where its clocks come behind so many
unfoldable pub column_text : ℕ → Row → Column → List ℕ
column_text before row columns.First = clock_text before (Some row.seen.clock)
column_text before row columns.Agent = agent_text row.seen.who
column_text before row columns.Kind = kind_text row.seen.request
column_text before row columns.Address = target_text row.seen.request
column_text before row columns.Snoop = clock_text before (snoop_clock row.snoop)
column_text before row columns.Signs = signs_text false row.snoop
column_text before row columns.Response = clock_text before row.response
column_text before row columns.Outcome = outcome_text row.seen.cancelled row.outcome
column_text before row columns.End = clock_text before row.end
column_text before row columns.Reply = clock_text before row.reply
column_text before row columns.ToSnoop = between_text (Some row.seen.clock) (snoop_clock row.snoop)
column_text before row columns.ToResponse = between_text (snoop_clock row.snoop) row.response
column_text before row columns.ToEnd = between_text (Some row.seen.clock) row.end
