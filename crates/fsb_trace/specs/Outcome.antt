-- Outcomes: the one that a response tells, and the one that is settled at the snoop end.
use Rattle.std.specs.Prelude.{ℕ, Bool, true, false, nat_eq, nat_le, nat_lt, if◌then◌else◌, List, Option, Some, None, length, slice_index}
use Rattle.std.specs.Option.{option_map}
use Rattle.fsb_count.specs.Options.{is_some_and}
use Rattle.fsb_count.specs.Clocks.{nth_where}
use Rattle.fsb_signal.specs.declared.lines.TheConstants.Lines.{HITM}
use Rattle.fsb_signal.specs.Samples.{line_at}
use Rattle.fsb_encode.specs.declared.request.Kind.TheVariants.{Reply, Invalidate, Read, WriteBack, Upgrade}
use Rattle.fsb_encode.specs.declared.request.Request.{Request}
use Rattle.fsb_trace.specs.declared.outcome.Outcome.{Outcome}
use Rattle.fsb_trace.specs.declared.outcome.Outcome.TheVariants.{Granted, Handed, Retried, Deferred, Written, Replied, Failed, Upgraded}
use Rattle.fsb_trace.specs.At.{Trace, responds_at, response_code_at}
use Rattle.fsb_trace.specs.Requests.{live_count, live_request_of}
use Rattle.fsb_trace.specs.Snoop.{snoop_end_of, line_at_snoop_end}

-- data move with this outcome
unfoldable pub does_move : Outcome → Bool
does_move Granted = true
does_move Handed = true
does_move Retried = false
does_move Deferred = false
does_move Written = true
does_move Replied = true
does_move Failed = false
does_move Upgraded = false

-- memory takes data with this outcome
unfoldable pub does_take : Outcome → Bool
does_take Granted = false
does_take Handed = true
does_take Retried = false
does_take Deferred = false
does_take Written = true
does_take Replied = false
does_take Failed = false
does_take Upgraded = false

-- the response code of this outcome: RS2, RS1 and RS0
unfoldable pub response_code_of : Outcome → ℕ
response_code_of Granted = 0b111
response_code_of Handed = 0b110
response_code_of Retried = 0b001
response_code_of Deferred = 0b010
response_code_of Written = 0b101
response_code_of Replied = 0b111
response_code_of Failed = 0b100
response_code_of Upgraded = 0b101

-- the outcome is Deferred
unfoldable pub is_deferral : Outcome → Bool
is_deferral Granted = false
is_deferral Handed = false
is_deferral Retried = false
is_deferral Deferred = true
is_deferral Written = false
is_deferral Replied = false
is_deferral Failed = false
is_deferral Upgraded = false

-- the outcome of a request that nothing hands on, retries, defers or fails: by its kind
unfoldable pub outcome_by_kind : Option Request → Outcome
outcome_by_kind None = Granted
outcome_by_kind (Some request) =
    elim request.kind
    [ WriteBack ↦ Written | Upgrade ↦ Upgraded | Reply ↦ Replied | Read ↦ Granted | Invalidate ↦ Granted ]

-- the response clock of live request i: the i-th clock, from 0, at which RS# is not idle
unfoldable pub response_clock_of : Trace → ℕ → Option ℕ
response_clock_of w i = nth_where (responds_at w) i (length w)

-- the response clock of live request i, where there is such a request
unfoldable pub live_response_of : Trace → ℕ → Option ℕ
live_response_of w i = if nat_lt i (live_count w) then response_clock_of w i else None

-- what a response with this code tells of a request, whose line an owner hands on, or does not
abbrev pub told_with : Bool → Option Request → ℕ → Outcome
told_with handed request code =
    if nat_eq code (response_code_of Failed) then Failed
    else (if handed then Handed
    else (if nat_eq code (response_code_of Retried) then Retried
    else (if nat_eq code (response_code_of Deferred) then Deferred
    else outcome_by_kind request)))

-- what a response with this code tells of live request i
unfoldable pub told_by : Trace → ℕ → ℕ → Outcome
told_by w i code = told_with (line_at_snoop_end HITM w i) (live_request_of w i) code

-- the told outcome of live request i, which is read at its response
unfoldable pub outcome_of : Trace → ℕ → Option Outcome
outcome_of w i = option_map (λ r. told_by w i (response_code_at w r)) (live_response_of w i)

-- the outcome of live request i is told, and with it data move
unfoldable pub moves_data : Trace → ℕ → Bool
moves_data w i = is_some_and (outcome_of w i) does_move

-- the outcome of live request i is told, and is Deferred
unfoldable pub is_deferred : Trace → ℕ → Bool
is_deferred w i = is_some_and (outcome_of w i) is_deferral

-- what is settled of live request i at its snoop end s, by its effective turn: 0 to keep it, 1 to retry it, and for a
-- deferral two more than the clocks for which it is put off
unfoldable pub settled_by : Trace → ℕ → ℕ → ℕ → Outcome
settled_by w turn i s =
    if line_at HITM w s then Handed
    else (if nat_eq turn 1 then Retried
    else (if nat_le 2 turn then Deferred
    else outcome_by_kind (live_request_of w i)))

-- the settled outcome of live request i, where the effective turns of the live requests are these, in order
unfoldable pub settled_outcome_of : Trace → List ℕ → ℕ → Option Outcome
settled_outcome_of w turns i = option_map (settled_by w (slice_index turns i) i) (snoop_end_of w i)

-- the settled outcome of live request i is reached, and is Deferred
unfoldable pub is_settled_deferred : Trace → List ℕ → ℕ → Bool
is_settled_deferred w turns i = is_some_and (settled_outcome_of w turns i) is_deferral
