-- What the wires show of a line: who asks for it, what its snoop ends say, whose bytes are under way.
-- All of it is taken in the samples of v alone. q is the first clock of a request; i and j number the live ones.
use Rattle.std.specs.Prelude.{ℕ, ◌+◌, nat_eq, Bool, true, false, ◌&&◌, ◌||◌, not, if◌then◌else◌, Option, Some, None}
use Rattle.std.specs.Option.{option_and_then}
use Rattle.fsb_count.specs.Options.{is_some_and, is_before, is_at}
use Rattle.fsb_count.specs.Clocks.{first_where, any_where}
use Rattle.fsb_signal.specs.declared.lines.TheConstants.Lines.{ADS, DEFER, HITM}
use Rattle.fsb_signal.specs.Samples.{line_at}
use Rattle.fsb_encode.specs.declared.request.Kind.{Kind}
use Rattle.fsb_encode.specs.declared.request.Kind.TheVariants as kinds
use Rattle.fsb_line.specs.declared.purpose.Purpose.{Purpose}
use Rattle.fsb_line.specs.declared.purpose.Purpose.TheVariants as purposes
use Rattle.fsb_line.specs.States.{gets_line}
use Rattle.fsb_trace.specs.declared.outcome.Outcome.{Outcome}
use Rattle.fsb_trace.specs.declared.outcome.Outcome.TheVariants.{Granted, Handed, Retried, Deferred, Written, Replied, Failed, Upgraded}
use Rattle.fsb_trace.specs.At.{Trace, request_at}
use Rattle.fsb_trace.specs.Requests.{is_reply, is_upgrade, is_write_back, line_of, live_clock_of, live_count, live_request_of}
use Rattle.fsb_trace.specs.Winner.{symmetric_after, winner_at}
use Rattle.fsb_trace.specs.Snoop.{line_at_snoop_end, snoop_end_of}
use Rattle.fsb_trace.specs.Outcome.{is_deferred, outcome_of}
use Rattle.fsb_trace.specs.Response.{end_of}
use Rattle.fsb_trace.specs.Flight.{is_in_flight, is_outstanding, reply_number_of}

-- what a request of this kind asks of its line; a reply asks nothing of its own
unfoldable pub purpose_of : Kind → Option Purpose
purpose_of kinds.Reply = None
purpose_of kinds.Invalidate = Some purposes.Own
purpose_of kinds.Read = Some purposes.Read
purpose_of kinds.WriteBack = Some purposes.WriteBack
purpose_of kinds.Upgrade = Some purposes.Upgrade

-- what the request that begins at q asks of its line; it is known from q + 1 on
unfoldable pub purpose_at : Trace → ℕ → Option Purpose
purpose_at v q = option_and_then (λ r. purpose_of r.kind) (request_at v q)

-- the winner at q, where that is a symmetric agent
unfoldable pub agent_at : Trace → ℕ → Option ℕ
agent_at v q = symmetric_after None (winner_at v q)

-- a request that names the line begins at q; a reply names none
unfoldable pub names : Trace → ℕ → ℕ → Bool
names v line q = line_at ADS v q && is_at (line_of v q) line && not (is_reply (request_at v q))

-- the request that begins at q names the line, and is this agent's
unfoldable pub asks : Trace → ℕ → ℕ → ℕ → Bool
asks v line a q = names v line q && is_at (agent_at v q) a

-- live request i is Deferred, and live request j is the reply to it
unfoldable pub is_reply_of : Trace → ℕ → ℕ → Bool
is_reply_of v j i = is_deferred v i && is_at (reply_number_of v i) j

-- the request that counts at live request j: of a reply the one that it answers, else itself
unfoldable pub origin_of : Trace → ℕ → Option ℕ
origin_of v j =
    if is_reply (live_request_of v j) then first_where (is_reply_of v j) (live_count v) else Some j

-- the first clock of that request
unfoldable pub origin_clock_of : Trace → ℕ → Option ℕ
origin_clock_of v j = option_and_then (live_clock_of v) (origin_of v j)

-- live request j names the line, or answers a request that does
unfoldable pub is_for_line : Trace → ℕ → ℕ → Bool
is_for_line v line j = is_some_and (origin_clock_of v j) (names v line)

-- the outcome is a hard failure
unfoldable pub is_failure : Outcome → Bool
is_failure Granted = false
is_failure Handed = false
is_failure Retried = false
is_failure Deferred = false
is_failure Written = false
is_failure Replied = false
is_failure Failed = true
is_failure Upgraded = false

-- a request for the line, or the reply to one, failed hard. Nothing says what agents hold from then on, so no rule is
-- judged
unfoldable pub is_spoiled : Trace → ℕ → Bool
is_spoiled v line =
    any_where (λ j. is_for_line v line j && is_some_and (outcome_of v j) is_failure) (live_count v)

-- live request j is turned away at its snoop end, to be made again or to be answered later
unfoldable pub is_turned : Trace → ℕ → Bool
is_turned v j = line_at_snoop_end DEFER v j && not (line_at_snoop_end HITM v j)

-- live request j is to have the bytes of its line: it is a reply, or an owner hands them over, or memory gives them. It is
-- read once the snoop end is reached: before, every read passes
unfoldable pub brings_bytes : Trace → ℕ → Bool
brings_bytes v j =
    is_reply (live_request_of v j)
    || (line_at_snoop_end HITM v j && not (is_write_back (live_request_of v j)))
    || (not (is_turned v j) && is_some_and (option_and_then (purpose_at v) (origin_clock_of v j)) gets_line)

-- at c bytes of the line are under way to the agent by live request j: its snoop end lies below c, and its end does not
unfoldable pub is_coming_by : Trace → ℕ → ℕ → ℕ → ℕ → Bool
is_coming_by v line a c j =
    is_some_and (origin_clock_of v j) (asks v line a) && brings_bytes v j && is_before (snoop_end_of v j) c
    && not (is_before (end_of v j) c)

-- bytes of the line are under way to the agent at c
unfoldable pub is_coming : Trace → ℕ → ℕ → ℕ → Bool
is_coming v line a c = any_where (is_coming_by v line a c) (live_count v)

-- c lies from the first clock of an upgrade of the line by the agent to its last clock as outstanding
unfoldable pub is_upgrading : Trace → ℕ → ℕ → ℕ → Bool
is_upgrading v line a c =
    any_where (λ q. asks v line a q && is_upgrade (request_at v q) && (nat_eq q c || is_outstanding v c q)) (c + 1)

-- the agent may drop a clean copy at c: no bytes of the line are under way to it there, nor an upgrade. `is_coming` at c and
-- at c + 1 are together the clocks from the snoop end to the end, both included
unfoldable pub may_drop_at : Trace → ℕ → ℕ → ℕ → Bool
may_drop_at v line c a =
    not (is_coming v line a c) && not (is_coming v line a (c + 1)) && not (is_upgrading v line a c)

-- the request that begins at q is in flight at c and has no snoop end below c
unfoldable pub is_open_at : Trace → ℕ → ℕ → Bool
is_open_at v c q =
    is_in_flight v c q && not (any_where (λ j. is_at (live_clock_of v j) q && is_before (snoop_end_of v j) c) (live_count v))

-- a request of another agent for the line is open at c
unfoldable pub is_held_back : Trace → ℕ → ℕ → ℕ → Bool
is_held_back v line a c =
    any_where (λ q. names v line q && not (is_at (agent_at v q) a) && is_open_at v c q) c

-- an earlier request of the agent for the line is outstanding at c
unfoldable pub is_still_asking : Trace → ℕ → ℕ → ℕ → Bool
is_still_asking v line a c = any_where (λ q. asks v line a q && is_outstanding v c q) c

-- the live request whose snoop ends at c
unfoldable pub snooped_at : Trace → ℕ → Option ℕ
snooped_at v c = first_where (λ j. is_at (snoop_end_of v j) c) (live_count v)
