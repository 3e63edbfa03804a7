-- What is known of the request that responds next.
use Rattle.std.specs.Prelude.{◌≡◌, ◌≤◌, ℕ, ◌+◌, Bool, true, not, ◌&&◌, ◌||◌, nat_eq, max, if◌then◌else◌, Option, Some, None}
use Rattle.std.specs.Option.{option_map}
use Rattle.fsb_signal.specs.declared.lines.TheConstants.Lines.{DEFER, HITM}
use Rattle.fsb_trace.specs.declared.outcome.Outcome.{Outcome}
use Rattle.fsb_trace.specs.declared.outcome.Outcome.TheVariants.{Granted, Handed, Retried, Deferred, Written, Upgraded}
use Rattle.fsb_trace.specs.Outcome.{response_code_of}
use Rattle.fsb_why_queue.specs.declared.queue.Asked.{Asked}
use Rattle.fsb_trace.specs.At.{Trace}
use Rattle.fsb_trace.specs.Requests.{is_upgrade, is_write_back, live_clock_of, live_count, live_request_of}
use Rattle.fsb_trace.specs.Snoop.{line_at_snoop_end, snoop_end_of}
use Rattle.fsb_trace.specs.Response.{end_of, ready_clock_of}
use Rattle.fsb_trace.specs.Rules.{has_den, may_answer, next_response}
use Rattle.fsb_heads.specs.Heads.{value_before}
use Rattle.fsb_reasons.specs.declared.reason.Wait.{Wait}
use Rattle.fsb_reasons.specs.Holds.{Waits}
use Rattle.fsb_why_queue.specs.declared.next.Next.{Next}

-- it is the live request that responds next at c, and this is reached of it in v
pub record IsNext (next : Next) (v : Trace) (c : ℕ) : Type 0 where
  pub number : next.request.number ≡ next_response v c
  pub clock : live_clock_of v next.request.number ≡ Some next.request.clock
  pub snoop : next.snoop ≡ snoop_end_of v next.request.number
  pub ended : next.ended ≡ value_before (end_of v) next.request.number
  pub decoded : next.decoded ≡ live_request_of v next.request.number
  pub handed : next.handed ≡ line_at_snoop_end HITM v next.request.number
  pub defer : next.defer ≡ line_at_snoop_end DEFER v next.request.number
  pub ready : next.ready ≡ ready_clock_of v next.request.number

-- or no live request responds next
abbrev pub SaysNext : Trace → ℕ → Option Next → Type 0
SaysNext v c None = live_count v ≤ next_response v c
SaysNext v c (Some next) = IsNext next v c

-- why live request i may not be answered at c, or it may
abbrev pub SaysWait : Trace → ℕ → ℕ → Option Wait → Type 0
SaysWait v c i None = may_answer v c i ≡ true
SaysWait v c i (Some wait) = Waits v c i wait

-- this clock, or, if that is later, the one after the end of the request before
abbrev pub later_after : Next → ℕ → Option ℕ
later_after next from =
    if nat_eq next.request.number 0 then Some from
    else option_map (λ t. max from (t + 1)) next.ended

-- memory is to take its data
abbrev pub takes_by : Next → Bool
takes_by next = is_write_back next.decoded || next.handed

-- what it is to be told
abbrev pub expected_by : Next → Outcome
expected_by next =
    if next.handed then Handed
    else (if is_write_back next.decoded then Written
    else (if next.defer then Retried
    else (if is_upgrade next.decoded then Upgraded else Granted)))

-- it may be told Deferred in place of a retry
abbrev pub may_defer_by : Next → Bool
may_defer_by next =
    not next.handed && not (is_write_back next.decoded) && next.defer && has_den next.decoded

-- the code is the one for it
abbrev pub fits_by : Next → ℕ → Bool
fits_by next found =
    nat_eq found (response_code_of (expected_by next))
    || may_defer_by next && nat_eq found (response_code_of Deferred)

-- it is the live request of this number, by its clock and as it is decoded; or there is none
abbrev pub SaysAsked : Trace → ℕ → Option Asked → Type 0
SaysAsked v i None = live_clock_of v i ≡ None
SaysAsked v i (Some asked) =
    (live_clock_of v i ≡ Some asked.clock) × (asked.request ≡ live_request_of v i)
