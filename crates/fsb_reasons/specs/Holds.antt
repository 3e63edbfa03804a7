-- What a reason says of clock c of a trace, which is to end there.
use Rattle.std.specs.Prelude.{◌≡◌, ◌<◌, ◌≤◌, ◌⊎◌, ℕ, suc, ◌+◌, ◌-◌, ◌/◌, ◌%◌, Bool, true, false, ◌&&◌, ◌||◌, not, is_some, nat_eq, nat_lt, ◌==◌, if◌then◌else◌, Option, Some, None, Err, length, slice_get}
use Rattle.std.specs.Option.{option_map}
use Rattle.fsb_count.specs.Options.{is_before}
use Rattle.fsb_count.specs.Clocks.{first_where, last_where, any_where, count_where, from_clock}
use Rattle.fsb_signal.specs.declared.lines.Lines.{Lines}
use Rattle.fsb_signal.specs.declared.lines.TheConstants.Lines.{BNR, ADS, AERR, HIT, HITM, DEFER, LOCK, TRDY, DBSY, DRDY, BPRI}
use Rattle.fsb_signal.specs.declared.marks.Marks.{Marks}
use Rattle.fsb_signal.specs.declared.sample.Sample.{Sample}
use Rattle.fsb_signal.specs.Parity.{is_address_odd, is_request_odd, is_low_address_even, is_high_address_even}
use Rattle.fsb_signal.specs.Samples.{line_at}
use Rattle.fsb_encode.specs.declared.decoding.DecodeFault.{DecodeFault}
use Rattle.fsb_encode.specs.declared.request.Pair.{Pair}
use Rattle.fsb_encode.specs.declared.request.Request.{Request}
use Rattle.fsb_encode.specs.Decoded.{decoded}
use Rattle.fsb_trace.specs.declared.outcome.Outcome.{Outcome}
use Rattle.fsb_trace.specs.declared.outcome.Outcome.TheVariants.{Granted, Handed, Retried, Deferred, Written, Upgraded}
use Rattle.fsb_trace.specs.declared.who.Who.{Who}
use Rattle.fsb_trace.specs.declared.who.Who.TheVariants.{Symmetric, Priority}
use Rattle.fsb_trace.specs.At.{Trace, line_back, responds_at, response_code_at, request_at, known_pair_at}
use Rattle.fsb_trace.specs.Winner.{winner_at, is_agent, begins_at, request_line_of, bus_request_of, last_agent, last_if_asking}
use Rattle.fsb_trace.specs.Requests.{live_count, live_clock_of, live_request_of, is_reply, is_write_back, is_upgrade}
use Rattle.fsb_trace.specs.Snoop.{snoop_end_of, snoop_start_of, is_snoop_clock, line_at_snoop_end}
use Rattle.fsb_trace.specs.Outcome.{response_code_of, response_clock_of, moves_data}
use Rattle.fsb_trace.specs.Response.{takes, end_of, ready_clock_of, answer_from}
use Rattle.fsb_trace.specs.Flight.{in_flight}
use Rattle.fsb_trace.specs.Rules.{next_response, has_den, responds_soundly, is_ready_in_time, is_transferring, awaits_reply, is_id_taken_by, is_outstanding_of_winner, has_parity_at}
use Rattle.fsb_reasons.specs.RuleOf.{rule_of}
use Rattle.fsb_reasons.specs.declared.reason.Concerned.{Concerned}
use Rattle.fsb_reasons.specs.declared.reason.SnoopLines.{SnoopLines}
use Rattle.fsb_reasons.specs.declared.reason.Wait.{Wait}
use Rattle.fsb_reasons.specs.declared.reason.Wait.TheVariants.{NoSnoopEnd, SnoopEnd, NotClear}
use Rattle.fsb_reasons.specs.declared.reason.Reason.{Reason}
use Rattle.fsb_reasons.specs.declared.reason.Reason.TheVariants.{UnknownLines, AtStart, TooSoon, UnknownBits, Unlawful, QueueFull, Blocked, NotArbitrated, Locked, NoneAsks, NoId, ReplyByOther, IdOfOther, Dropped, Held, LockAlone, ErrorAlone, SnoopsOver, SnoopEarly, SnoopBetween, WriteBackSnooped, ReplySnooped, NothingToAnswer, ResponseEarly, CodeForNone, CodeUnsettled, CodeWrong, ReadyForNone, ReadyUnsettled, ReadyUnwanted, ReadyEarly, ReadyTwice, ResponseUnready, DataForNone, BusyMissing, BusyForNone, UnknownData, ReplyUnawaited, IdTaken, TooMany, AddressParity, RequestParity}

-- the live request of this number begins at this clock
abbrev pub IsRequest : Trace → Concerned → Type 0
IsRequest v request = live_clock_of v request.number ≡ Some request.clock

-- it is the live request that responds next at c
abbrev pub IsNext : Trace → ℕ → Concerned → Type 0
IsNext v c request = (request.number ≡ next_response v c) × IsRequest v request

-- no live request responds next at c: this number has none
abbrev pub IsNone : Trace → ℕ → ℕ → Type 0
IsNone v c number = (number ≡ next_response v c) × (live_count v ≤ number)

-- why live request i may not be answered at c
abbrev pub Waits : Trace → ℕ → ℕ → Wait → Type 0
Waits v c i NoSnoopEnd = snoop_end_of v i ≡ None
Waits v c i (SnoopEnd s) = (snoop_end_of v i ≡ Some s) × (c < s + 2)
Waits v c i (NotClear end) =
    ((s : ℕ) × (snoop_end_of v i ≡ Some s) × (s + 2 ≤ c))
    × ((j : ℕ) × (i ≡ suc j) × (end_of v j ≡ end) × (is_before end c ≡ false))

-- the agent is one of the five of the bus
unfoldable pub is_bus_agent : Who → Bool
is_bus_agent (Symmetric a) = nat_lt a 4
is_bus_agent Priority = true

-- these of HIT#, HITM# and DEFER# are asserted at c
abbrev pub AreSnooped : Trace → ℕ → SnoopLines → Type 0
AreSnooped v c lines =
    (lines.hit ≡ line_at HIT v c) × (lines.hitm ≡ line_at HITM v c) × (lines.defer ≡ line_at DEFER v c)

-- and one of them at least is
abbrev pub IsSnooped : Trace → ℕ → SnoopLines → Type 0
IsSnooped v c lines = AreSnooped v c lines × ((lines.hit || lines.hitm || lines.defer) ≡ true)

-- live request i has not had its snoop end below c
unfoldable pub is_unsnooped : Trace → ℕ → ℕ → Bool
is_unsnooped v c i = not (is_before (snoop_end_of v i) c)

-- the first live request without its snoop end below c
unfoldable pub next_snoop : Trace → ℕ → Option ℕ
next_snoop v c = first_where (is_unsnooped v c) (live_count v)

-- what live request i is to be told: implicit writeback with HITM#, no data for a write-back, retry with DEFER#, and
-- else no data for an upgrade and normal data for the rest
unfoldable pub expected_of : Trace → ℕ → Outcome
expected_of v i =
    if line_at_snoop_end HITM v i then Handed
    else (if is_write_back (live_request_of v i) then Written
    else (if line_at_snoop_end DEFER v i then Retried
    else (if is_upgrade (live_request_of v i) then Upgraded else Granted)))

-- live request i may be told Deferred in place of a retry: DEN# was asserted with it
unfoldable pub may_defer_of : Trace → ℕ → Bool
may_defer_of v i =
    not (line_at_snoop_end HITM v i) && not (is_write_back (live_request_of v i)) && line_at_snoop_end DEFER v i
    && has_den (live_request_of v i)

-- the request that begins at q is decoded, and has this ID
abbrev pub HasId : Trace → ℕ → ℕ → Type 0
HasId v q did = (r : Request) × (request_at v q ≡ Some r) × (r.did ≡ did)

-- of the address and REQ words of q and q + 1 nothing is unknown, and they hold no request by this fault
abbrev pub IsFaulty : Trace → ℕ → DecodeFault → Type 0
IsFaulty v q fault =
    (a b : Pair) × (known_pair_at v q ≡ Some a) × (known_pair_at v (q + 1) ≡ Some b) × (decoded a b ≡ Err fault)

-- what the reason says of clock c, in a dump with these marks
abbrev pub Holds : Marks → Trace → ℕ → Reason → Type 0
-- 1: these control lines, and no others, are unknown at c
Holds m v c (UnknownLines lines) =
    (option_map (λ s. s.unknown) (slice_get v c) ≡ Some lines) × ((lines.0 == 0) ≡ false)
-- 2: ADS# is at c, which is 0 or 1
Holds m v c AtStart = (line_at ADS v c ≡ true) × (c < 2)
-- 2: ADS# is at c, less than three clocks after the last one before
Holds m v c (TooSoon before earliest) =
    (line_at ADS v c ≡ true) × (last_where (line_at ADS v) c ≡ Some before) × (earliest ≡ before + 3) × (c < earliest)
-- 3: ADS# is at c - 1, and this one of the two clocks is the first with an unknown bit in its address or REQ word
Holds m v c (UnknownBits clock) =
    (line_back ADS v c 1 ≡ true) × (known_pair_at v clock ≡ None)
    × ((clock ≡ c - 1) ⊎ ((clock ≡ c - 1 + 1) × (is_some (known_pair_at v (c - 1)) ≡ true)))
-- 3: ADS# is at c - 1, and the two clocks hold no lawful request, for this fault
Holds m v c (Unlawful fault) =
    (line_back ADS v c 1 ≡ true) × (request_at v (c - 1) ≡ None) × IsFaulty v (c - 1) fault
-- 4: ADS# is at c, and so many are in flight, eight or more, the oldest from this clock on
Holds m v c (QueueFull n oldest) =
    (line_at ADS v c ≡ true) × (length (in_flight v c) ≡ n) × (8 ≤ n) × (slice_get (in_flight v c) 0 ≡ Some oldest)
-- 5: ADS# is at c, and BNR# two clocks before
Holds m v c (Blocked clock) = (line_at ADS v c ≡ true) × (clock + 2 ≡ c) × (line_at BNR v clock ≡ true)
-- 6: ADS# is at c, which is 0 or 1
Holds m v c NotArbitrated = (line_at ADS v c ≡ true) × (c < 2)
-- 6: ADS# is at c, LOCK# two clocks before, and the agent of the last request, if there is one, did not ask then
Holds m v c (Locked holder) =
    (line_at ADS v c ≡ true) × (2 ≤ c) × (line_at LOCK v (c - 2) ≡ true) × (last_agent v c ≡ holder)
    × (last_if_asking v (c - 2) holder ≡ None)
-- 6: ADS# is at c, and two clocks before neither LOCK# nor a request line is asserted
Holds m v c (NoneAsks clock) =
    (line_at ADS v c ≡ true) × (clock + 2 ≡ c) × (line_at LOCK v clock ≡ false) × (line_at BPRI v clock ≡ false)
    × ((a : ℕ) → a < 4 → line_at (bus_request_of a) v clock ≡ false)
-- 7: ADS# is at c - 1, and that request is not decoded
Holds m v c NoId = (line_back ADS v c 1 ≡ true) × (request_at v (c - 1) ≡ None)
-- 7: ADS# is at c - 1, that request is a reply, and its winner is not the priority agent
Holds m v c (ReplyByOther winner) =
    (line_back ADS v c 1 ≡ true) × (is_reply (request_at v (c - 1)) ≡ true) × (winner_at v (c - 1) ≡ winner)
    × (is_agent winner Priority ≡ false)
-- 7: ADS# is at c - 1, that request is no reply, and its winner is not the agent of its ID
Holds m v c (IdOfOther did winner) =
    (line_back ADS v c 1 ≡ true) × (is_reply (request_at v (c - 1)) ≡ false) × HasId v (c - 1) did
    × (winner_at v (c - 1) ≡ winner) × (is_agent winner (Symmetric (did / 16)) ≡ false)
-- 8: the agent's request line is at c - 1 and not at c, and its request does not begin at c - 1
Holds m v c (Dropped who) =
    (is_bus_agent who ≡ true) × (begins_at v (c - 1) who ≡ false) × (line_back (request_line_of who) v c 1 ≡ true)
    × (line_at (request_line_of who) v c ≡ false)
-- 8: the agent's request begins at c - 1, and its request line is at c
Holds m v c (Held who) =
    (is_bus_agent who ≡ true) × (1 ≤ c) × (begins_at v (c - 1) who ≡ true)
    × (line_at (request_line_of who) v c ≡ true)
-- 9: LOCK# is at c and not at c - 1, and ADS# is not at c
Holds m v c LockAlone =
    (line_at LOCK v c ≡ true) × (line_back LOCK v c 1 ≡ false) × (line_at ADS v c ≡ false)
-- 10: AERR# is at c, ADS# is not at c - 3, and the last request before c begins there
Holds m v c (ErrorAlone last) =
    (line_at AERR v c ≡ true) × (line_back ADS v c 3 ≡ false) × (last ≡ last_where (line_at ADS v) c)
-- 11: these lines are at c, which is no snoop clock, and every live request has its snoop end below c
Holds m v c (SnoopsOver lines) = IsSnooped v c lines × (is_snoop_clock v c ≡ false) × (next_snoop v c ≡ None)
-- 11: these lines are at c, which is no snoop clock; the snoop of the next request to be snooped starts after c
Holds m v c (SnoopEarly lines request start) =
    IsSnooped v c lines × (is_snoop_clock v c ≡ false) × (next_snoop v c ≡ Some request.number) × IsRequest v request
    × (snoop_start_of v request.number ≡ Some start) × (c < start)
-- 11: these lines are at c, which is no snoop clock; the snoop of the next request to be snooped started before c, an odd
-- number of clocks
Holds m v c (SnoopBetween lines request start) =
    IsSnooped v c lines × (is_snoop_clock v c ≡ false) × (next_snoop v c ≡ Some request.number) × IsRequest v request
    × (snoop_start_of v request.number ≡ Some start) × (start ≤ c) × (nat_eq ((c - start) % 2) 0 ≡ false)
-- 12: a write-back has its snoop end at c, with these lines
Holds m v c (WriteBackSnooped lines request) =
    IsSnooped v c lines × IsRequest v request × (snoop_end_of v request.number ≡ Some c)
    × (is_write_back (live_request_of v request.number) ≡ true)
-- 12: a reply has its snoop end at c, with these lines, of which HITM# or DEFER# is one
Holds m v c (ReplySnooped lines request) =
    AreSnooped v c lines × ((lines.hitm || lines.defer) ≡ true) × IsRequest v request
    × (snoop_end_of v request.number ≡ Some c) × (is_reply (live_request_of v request.number) ≡ true)
-- 13: RS# is not idle at c, and no live request is left to respond
Holds m v c (NothingToAnswer number) = (responds_at v c ≡ true) × IsNone v c number
-- 13: RS# is not idle at c, and the next request waits; this is the clock from which it is answered
Holds m v c (ResponseEarly request wait earliest) =
    (responds_at v c ≡ true) × IsNext v c request × Waits v c request.number wait
    × (answer_from v request.number ≡ earliest)
-- 14: RS# is neither idle nor a hard failure at c but this, and no live request is left to respond
Holds m v c (CodeForNone number code) =
    (responds_soundly v c ≡ true) × (response_code_at v c ≡ code) × IsNone v c number
-- 14: RS# is neither idle nor a hard failure at c but this; the next request has no snoop end, and this is not what it is
-- to be told without a snoop line
Holds m v c (CodeUnsettled request found expected) =
    (responds_soundly v c ≡ true) × (response_code_at v c ≡ found) × IsNext v c request
    × (snoop_end_of v request.number ≡ None) × (expected_of v request.number ≡ expected)
    × (nat_eq found (response_code_of expected) ≡ false)
-- 14: RS# is neither idle nor a hard failure at c but this, and not what the next request is to be told
Holds m v c (CodeWrong request snoop_end found expected may_defer) =
    (responds_soundly v c ≡ true) × (response_code_at v c ≡ found) × IsNext v c request
    × (snoop_end_of v request.number ≡ Some snoop_end) × (expected_of v request.number ≡ expected)
    × (may_defer_of v request.number ≡ may_defer) × (nat_eq found (response_code_of expected) ≡ false)
    × ((may_defer && nat_eq found (response_code_of Deferred)) ≡ false)
-- 15: TRDY# is at c, and no live request is left to respond
Holds m v c (ReadyForNone number) = (line_at TRDY v c ≡ true) × IsNone v c number
-- 15: TRDY# is at c, and the next request, which is no write-back, has no snoop end
Holds m v c (ReadyUnsettled request) =
    (line_at TRDY v c ≡ true) × IsNext v c request × (snoop_end_of v request.number ≡ None)
    × (is_write_back (live_request_of v request.number) ≡ false)
-- 15: TRDY# is at c, and the next request does not take data
Holds m v c (ReadyUnwanted request snoop_end) =
    (line_at TRDY v c ≡ true) × IsNext v c request × (snoop_end_of v request.number ≡ Some snoop_end)
    × (takes v request.number ≡ false)
-- 15: TRDY# is at c, and the next request, which takes data, waits; this is the clock from which it is answered
Holds m v c (ReadyEarly request wait earliest) =
    (line_at TRDY v c ≡ true) × IsNext v c request × (takes v request.number ≡ true)
    × Waits v c request.number wait × (answer_from v request.number ≡ earliest)
-- 15: TRDY# is at c, and the target of the next request was ready before
Holds m v c (ReadyTwice request ready) =
    (line_at TRDY v c ≡ true) × IsNext v c request × (ready_clock_of v request.number ≡ Some ready) × (ready < c)
-- 15: RS# is neither idle nor a hard failure at c, and the target of the next request, which takes data, is not ready
-- two clocks before
Holds m v c (ResponseUnready request ready earliest) =
    (responds_soundly v c ≡ true) × IsNext v c request × (takes v request.number ≡ true)
    × (ready_clock_of v request.number ≡ ready) × (is_ready_in_time v c request.number ≡ false)
    × (earliest ≡ option_map (λ y. y + 2) ready)
-- 16: DRDY# is at c, no data are on the way, and the last response came then
Holds m v c (DataForNone last) =
    (line_at DRDY v c ≡ true) × (is_transferring v c ≡ false) × (last ≡ last_where (responds_at v) (c + 1))
-- 16: DBSY# is not at c, the request's data move since its response, and fewer than four chunks came up to c
Holds m v c (BusyMissing request response chunks) =
    (line_at DBSY v c ≡ false) × IsRequest v request × (moves_data v request.number ≡ true)
    × (response_clock_of v request.number ≡ Some response)
    × (chunks ≡ count_where (from_clock response (line_at DRDY v)) (c + 1)) × (chunks < 4)
-- 16: DBSY# is at c, no data are on the way after c, and the last response came then
Holds m v c (BusyForNone last) =
    (line_at DBSY v c ≡ true) × (is_transferring v (c + 1) ≡ false) × (last ≡ last_where (responds_at v) (c + 1))
-- 17: DRDY# is at c, and these bits of D, and no others, are unknown
Holds m v c (UnknownData bits) =
    (line_at DRDY v c ≡ true) × (option_map (λ s. s.dbus.unknown) (slice_get v c) ≡ Some bits) × ((bits == 0) ≡ false)
-- 18: ADS# is at c - 1, that request is a reply, and no Deferred request with its ID awaits it
Holds m v c (ReplyUnawaited did) =
    (line_back ADS v c 1 ≡ true) × (is_reply (request_at v (c - 1)) ≡ true) × HasId v (c - 1) did
    × (any_where (awaits_reply v (c - 1)) (live_count v) ≡ false)
-- 18: ADS# is at c - 1, that request is no reply, and an outstanding one has its ID
Holds m v c (IdTaken did by) =
    (line_back ADS v c 1 ≡ true) × (is_reply (request_at v (c - 1)) ≡ false) × HasId v (c - 1) did
    × (by < c - 1) × (is_id_taken_by v (c - 1) by ≡ true)
-- 18: ADS# is at c - 1, that request is no reply, and its agent has so many outstanding ones, four or more
Holds m v c (TooMany who n) =
    (line_back ADS v c 1 ≡ true) × (is_reply (request_at v (c - 1)) ≡ false) × (winner_at v (c - 1) ≡ Some who)
    × (count_where (is_outstanding_of_winner v (c - 1)) (c - 1) ≡ n) × (4 ≤ n)
-- 19: the dump has the address parity, c is one of the two clocks of a request, and the parity of these parts is odd
Holds m v c (AddressParity low high) =
    (m.ap ≡ true) × (has_parity_at v c ≡ true) × ((s : Sample) × (slice_get v c ≡ Some s) × (is_address_odd s ≡ true)
    × (low ≡ not (is_low_address_even s)) × (high ≡ not (is_high_address_even s)))
-- 20: the dump has the request parity, c is one of the two clocks of a request, and the parity is odd
Holds m v c RequestParity =
    (m.rp ≡ true) × (has_parity_at v c ≡ true) × ((s : Sample) × (slice_get v c ≡ Some s) × (is_request_odd s ≡ true))

-- rule j has a reason, and it holds at clock c
pub record HasReason (m : Marks) (v : Trace) (c j : ℕ) : Type 0 where
  pub reason : Reason
  pub rule : rule_of reason ≡ j
  pub holds : Holds m v c reason
