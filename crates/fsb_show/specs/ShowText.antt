-- The text of a shown dump.
use Rattle.std.specs.Prelude.{ℕ, suc, ◌*◌, ◌%◌, ◌^◌, Bool, List, [], ◌∷◌, ◌++◌, Option, Some, None, length, codes, if◌then◌else◌}
use Rattle.std.specs.Fmt.{decimal}
use Rattle.fsb_io.specs.NumberText.{hexadecimal}
use Rattle.fsb_encode.specs.declared.request.Kind.{Kind}
use Rattle.fsb_encode.specs.declared.request.Kind.TheVariants.{Reply, Invalidate, Read, WriteBack, Upgrade}
use Rattle.fsb_encode.specs.declared.request.Request.{Request}
use Rattle.fsb_probe.specs.Weights.{totals_of}
use Rattle.fsb_report.specs.VerdictText.{verdict_text}
use Rattle.fsb_rules.specs.Checker.{as_broken}
use Rattle.fsb_rules.specs.declared.broken.Broken.{Broken}
use Rattle.fsb_signal.specs.declared.marks.Marks.{Marks}
use Rattle.fsb_signal.specs.declared.sample.Sample.{Sample}
use Rattle.fsb_table.specs.Rows.{rows_of}
use Rattle.fsb_table.specs.declared.row.Row.{Row}
use Rattle.fsb_trace.specs.Requests.{is_reply_kind}
use Rattle.fsb_trace.specs.Verdict.{verdict}
use Rattle.fsb_trace.specs.declared.outcome.Outcome.{Outcome}
use Rattle.fsb_trace.specs.declared.outcome.Outcome.TheVariants.{Granted, Handed, Retried, Deferred, Written, Replied, Failed, Upgraded}
use Rattle.fsb_trace.specs.declared.who.Who.{Who}
use Rattle.fsb_trace.specs.declared.who.Who.TheVariants.{Symmetric, Priority}

-- a number that is reached, or a dash
abbrev pub number_text : Option ℕ → List ℕ
number_text None = codes "-"
number_text (Some n) = decimal n

-- the number of a symmetric agent, or `p` for the priority agent; a dash where none won
abbrev pub asker_text : Option Who → List ℕ
asker_text None = codes "-"
asker_text (Some (Symmetric a)) = decimal a
asker_text (Some Priority) = codes "p"

-- the word for a kind
abbrev pub kind_name : Kind → List ℕ
kind_name Reply = codes "reply"
kind_name Invalidate = codes "invalidate"
kind_name Read = codes "read"
kind_name WriteBack = codes "writeback"
kind_name Upgrade = codes "upgrade"

-- what a request asks for; a dash where none is decoded
abbrev pub kind_text : Option Request → List ℕ
kind_text None = codes "-"
kind_text (Some request) = kind_name request.kind

-- the address of the line of a request; a lawful request has a line below 2^31
abbrev pub line_address : Request → ℕ
line_address request = request.line % 2 ^ 31 * 32

-- the address of the line that a request names, in hexadecimal; a dash where none is decoded, and for a reply, which names none
abbrev pub address_text : Option Request → List ℕ
address_text None = codes "-"
address_text (Some request) = if is_reply_kind request.kind then codes "-" else hexadecimal (line_address request)

-- the word for an outcome
abbrev pub outcome_name : Outcome → List ℕ
outcome_name Granted = codes "granted"
outcome_name Handed = codes "handed"
outcome_name Retried = codes "retried"
outcome_name Deferred = codes "deferred"
outcome_name Written = codes "written"
outcome_name Replied = codes "replied"
outcome_name Failed = codes "failed"
outcome_name Upgraded = codes "upgraded"

-- how a request ends: `aerr` where it is cancelled, and a dash where its response is not reached
abbrev pub outcome_text : Bool → Option Outcome → List ℕ
outcome_text cancelled None = if cancelled then codes "aerr" else codes "-"
outcome_text cancelled (Some outcome) = outcome_name outcome

-- what a row says of the request itself: ` <clock> <agent> <kind> <address>`
abbrev pub seen_text : Row → List ℕ
seen_text row =
    codes " " ++ decimal row.seen.clock ++ codes " " ++ asker_text row.seen.who
    ++ codes " " ++ kind_text row.seen.request ++ codes " " ++ address_text row.seen.request

-- what a row says of its way: ` <snoop end> <response> <end> <outcome>`
abbrev pub way_text : Row → List ℕ
way_text row =
    codes " " ++ number_text row.snoop ++ codes " " ++ number_text row.response
    ++ codes " " ++ number_text row.end ++ codes " " ++ outcome_text row.seen.cancelled row.outcome

-- the line of row k: `<k> <clock> <agent> <kind> <address> <snoop end> <response> <end> <outcome>`
unfoldable pub row_text : ℕ → Row → List ℕ
row_text k row = decimal k ++ seen_text row ++ way_text row ++ codes "\n"

-- the line of the total of object i: `probe <i> = <total>`
unfoldable pub probe_text : ℕ → ℕ → List ℕ
probe_text i total = codes "probe " ++ decimal i ++ codes " = " ++ decimal total ++ codes "\n"

-- the texts of the elements of a list, numbered from k on
unfoldable pub numbered_text : {X : Type 0} → (ℕ → X → List ℕ) → ℕ → List X → List ℕ
numbered_text text k [] = []
numbered_text text k (x ∷ xs) = text k x ++ numbered_text text (suc k) xs

-- the table of so many clocks, with these totals and these rows: a line for each object, one for each request, and the line of
-- the verdict
unfoldable pub table_text : List ℕ → List Row → ℕ → List ℕ
table_text totals rows clocks =
    numbered_text probe_text 0 totals ++ (numbered_text row_text 0 rows ++ verdict_text clocks None)

-- what is told of a trace of so many clocks with this broken rule, or with none
unfoldable pub told_text : Option Broken → List ℕ → List Row → ℕ → List ℕ
told_text None totals rows clocks = table_text totals rows clocks
told_text (Some broken) totals rows clocks = verdict_text clocks (Some broken)

-- the text of a shown trace, of a dump with these marks, with objects that weigh samples so
unfoldable pub show_text : List (Sample → ℕ) → Marks → List Sample → List ℕ
show_text weights marks w = told_text (as_broken (verdict marks w)) (totals_of weights w) (rows_of w) (length w)
