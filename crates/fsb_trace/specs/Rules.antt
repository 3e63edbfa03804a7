-- The twenty phase rules. Each test says that the rule is broken at clock c of v, and v is to end with clock c: a rule
-- is judged over the samples up to its clock alone, and all numbers are taken in them. The last two are judged only
-- of a dump that declares their lines, which its marks say.
use Rattle.std.specs.Prelude.{ℕ, zero, suc, ◌+◌, ◌-◌, ◌/◌, Bool, false, ◌&&◌, ◌||◌, not, nat_lt, nat_le, nat_eq, if◌then◌else◌, List, [], ◌∷◌, Option, Some, None, length, slice_get, is_none}
use Rattle.std.specs.Option.{option_map_or}
use Rattle.fsb_count.specs.Options.{is_some_and, is_before, is_at}
use Rattle.fsb_count.specs.Clocks.{any_where, count_where, from_clock}
use Rattle.fsb_signal.specs.declared.lines.TheConstants.Lines.{BNR, ADS, AERR, HIT, HITM, DEFER, LOCK, TRDY, DBSY, DRDY}
use Rattle.fsb_signal.specs.declared.marks.Marks.{Marks}
use Rattle.fsb_signal.specs.Parity.{is_address_odd, is_request_odd}
use Rattle.fsb_signal.specs.Samples.{line_at, has_known_lines, is_known_word}
use Rattle.fsb_encode.specs.declared.request.Request.{Request}
use Rattle.fsb_trace.specs.declared.who.Who.{Who}
use Rattle.fsb_trace.specs.declared.who.Who.TheVariants.{Symmetric, Priority}
use Rattle.fsb_trace.specs.declared.outcome.Outcome.TheVariants.{Granted, Handed, Retried, Deferred, Written, Failed, Upgraded}
use Rattle.fsb_trace.specs.At.{Trace, line_back, responds_at, response_code_at, request_at}
use Rattle.fsb_trace.specs.Winner.{winner_at, is_agent, is_same_agent, begins_at, request_line_of}
use Rattle.fsb_trace.specs.Requests.{live_count, live_request_of, is_reply, is_write_back, is_upgrade, have_same_id}
use Rattle.fsb_trace.specs.Snoop.{snoop_end_of, line_at_snoop_end, is_snoop_clock}
use Rattle.fsb_trace.specs.Outcome.{response_code_of, response_clock_of, moves_data, is_deferred}
use Rattle.fsb_trace.specs.Response.{takes, is_clear_before, ready_clock_of}
use Rattle.fsb_trace.specs.Flight.{in_flight, is_outstanding}
use Rattle.fsb_trace.specs.Deferral.{is_answered}

-- 1 known control lines: a control line is unknown
unfoldable pub has_unknown_line : Trace → ℕ → Bool
has_unknown_line v c = option_map_or (λ s. not (has_known_lines s)) (slice_get v c) false

-- 2 request spacing: ADS# is at c, and c is 0 or 1 or ADS# is at c - 1 or c - 2
unfoldable pub is_request_too_soon : Trace → ℕ → Bool
is_request_too_soon v c = line_at ADS v c && (nat_lt c 2 || line_back ADS v c 1 || line_back ADS v c 2)

-- 3 lawful codes: ADS# is at c - 1, and the two clocks hold no lawful request or an unknown bit
unfoldable pub is_code_unlawful : Trace → ℕ → Bool
is_code_unlawful v c = line_back ADS v c 1 && is_none (request_at v (c - 1))

-- 4 queue depth: ADS# is at c, and eight requests or more are in flight
unfoldable pub is_queue_full : Trace → ℕ → Bool
is_queue_full v c = line_at ADS v c && nat_le 8 (length (in_flight v c))

-- 5 block next request: ADS# is at c, and BNR# is at c - 2
unfoldable pub is_request_blocked : Trace → ℕ → Bool
is_request_blocked v c = line_at ADS v c && line_back BNR v c 2

-- 6 arbitration winner: ADS# is at c, and there is no winner
unfoldable pub has_no_winner : Trace → ℕ → Bool
has_no_winner v c = line_at ADS v c && is_none (winner_at v c)

-- the ID is one of this winner's: its type is 0 and its agent the symmetric winner
unfoldable pub is_own_id : Option Who → Request → Bool
is_own_id winner request = is_some_and winner (is_same_agent (Symmetric (request.did / 16)))

-- the request is a reply of the priority agent, or another request with an ID of its winner's
unfoldable pub is_identified : Option Who → Option Request → Bool
is_identified winner request =
    if is_reply request then is_agent winner Priority else is_some_and request (is_own_id winner)

-- 7 request identity: ADS# is at c - 1, and the request is a reply of another agent than the priority agent, or no
-- reply and without an ID of its winner's
unfoldable pub is_identity_wrong : Trace → ℕ → Bool
is_identity_wrong v c = line_back ADS v c 1 && not (is_identified (winner_at v (c - 1)) (request_at v (c - 1)))

-- the agent's request line was asserted without its request beginning, and is not any more; or its request began,
-- and the line is still asserted
unfoldable pub is_asked_wrongly : Trace → ℕ → Who → Bool
is_asked_wrongly v c who =
    (if begins_at v (c - 1) who
    then nat_le 1 c && line_at (request_line_of who) v c
    else line_back (request_line_of who) v c 1 && not (line_at (request_line_of who) v c))

-- 8 request lines held and released: some agent's line is not held until its request begins, or not released then
unfoldable pub is_some_asked_wrongly : Trace → ℕ → Bool
is_some_asked_wrongly v c = any_where (λ a. is_asked_wrongly v c (Symmetric a)) 4 || is_asked_wrongly v c Priority

-- 9 lock begins with a request: LOCK# is at c and not at c - 1, and ADS# is not at c
unfoldable pub is_lock_alone : Trace → ℕ → Bool
is_lock_alone v c = line_at LOCK v c && not (line_back LOCK v c 1) && not (line_at ADS v c)

-- 10 address error timing: AERR# is at c, and ADS# is not at c - 3
unfoldable pub is_error_alone : Trace → ℕ → Bool
is_error_alone v c = line_at AERR v c && not (line_back ADS v c 3)

-- 11 snoop lines in snoop clocks: HIT#, HITM# or DEFER# is at c, and c is no snoop clock of a live request
unfoldable pub is_snoop_line_alone : Trace → ℕ → Bool
is_snoop_line_alone v c = (line_at HIT v c || line_at HITM v c || line_at DEFER v c) && not (is_snoop_clock v c)

-- live request i has its snoop end at c, and it is a write-back or reply with HITM# or DEFER# there, or a write-back
-- with HIT# there
unfoldable pub is_result_unfit_for : Trace → ℕ → ℕ → Bool
is_result_unfit_for v c i =
    is_at (snoop_end_of v i) c
    && ((is_write_back (live_request_of v i) || is_reply (live_request_of v i)) && (line_at HITM v c || line_at DEFER v c)
    || is_write_back (live_request_of v i) && line_at HIT v c)

-- 12 snoop results of write-backs and replies: such a request has its snoop end at c
unfoldable pub is_snoop_result_unfit : Trace → ℕ → Bool
is_snoop_result_unfit v c = any_where (is_result_unfit_for v c) (live_count v)

-- the number of the live request that responds next at c
unfoldable pub next_response : Trace → ℕ → ℕ
next_response v c = count_where (responds_at v) c

-- live request i has its snoop end at least two clocks before c, and the request before it has ended below c
unfoldable pub may_answer : Trace → ℕ → ℕ → Bool
may_answer v c i = is_some_and (snoop_end_of v i) (λ s. nat_le (s + 2) c) && is_clear_before v i c

-- 13 response timing: RS# is not idle at c, and there is no next response, or its snoop end does not lie at least two
-- clocks before, or the request before it has not ended
unfoldable pub is_response_early : Trace → ℕ → Bool
is_response_early v c = responds_at v c && not (may_answer v c (next_response v c))

-- the request is decoded, and DEN# was asserted with it: it may be deferred
unfoldable pub has_den : Option Request → Bool
has_den request = is_some_and request (λ r. r.den)

-- the code is the one for live request i: implicit writeback with HITM#, no data for a write-back, retry with DEFER#
-- or, if DEN# was asserted, deferred, and else no data for an upgrade and normal data for the rest
unfoldable pub is_code_for : Trace → ℕ → ℕ → Bool
is_code_for v i code =
    if line_at_snoop_end HITM v i then nat_eq code (response_code_of Handed)
    else (if is_write_back (live_request_of v i) then nat_eq code (response_code_of Written)
    else (if line_at_snoop_end DEFER v i
    then nat_eq code (response_code_of Retried)
    || has_den (live_request_of v i) && nat_eq code (response_code_of Deferred)
    else (if is_upgrade (live_request_of v i)
    then nat_eq code (response_code_of Upgraded)
    else nat_eq code (response_code_of Granted))))

-- RS# is neither idle nor a hard failure at c
unfoldable pub responds_soundly : Trace → ℕ → Bool
responds_soundly v c = responds_at v c && not (nat_eq (response_code_at v c) (response_code_of Failed))

-- live request i is there, and the code at c is its code
unfoldable pub has_code_at : Trace → ℕ → ℕ → Bool
has_code_at v c i = nat_lt i (live_count v) && is_code_for v i (response_code_at v c)

-- 14 response code: RS# is neither idle nor a hard failure at c, and is not the code for the next response
unfoldable pub is_code_wrong : Trace → ℕ → Bool
is_code_wrong v c = responds_soundly v c && not (has_code_at v c (next_response v c))

-- the target of live request i is ready at least two clocks before c
unfoldable pub is_ready_in_time : Trace → ℕ → ℕ → Bool
is_ready_in_time v c i = is_some_and (ready_clock_of v i) (λ y. nat_le (y + 2) c)

-- TRDY# is not for live request i at c: it does not take or may not be answered yet, or its target was ready before
unfoldable pub is_ready_wrongly : Trace → ℕ → ℕ → Bool
is_ready_wrongly v c i = not (takes v i && may_answer v c i) || is_before (ready_clock_of v i) c

-- 15 target ready: TRDY# is at c wrongly for the next response; or the next response takes, and is given at c, not as
-- a hard failure, without having been ready at least two clocks before
unfoldable pub is_target_ready_wrong : Trace → ℕ → Bool
is_target_ready_wrong v c =
    line_at TRDY v c && is_ready_wrongly v c (next_response v c)
    || responds_soundly v c && takes v (next_response v c) && not (is_ready_in_time v c (next_response v c))

-- the data of live request i move, and fewer than four of its chunks came below n
unfoldable pub is_transferring_of : Trace → ℕ → ℕ → Bool
is_transferring_of v n i =
    moves_data v i
    && is_some_and (response_clock_of v i) (λ r. nat_lt (count_where (from_clock r (line_at DRDY v)) n) 4)

-- the data of some live request move, and fewer than four of its chunks came below n
unfoldable pub is_transferring : Trace → ℕ → Bool
is_transferring v n = any_where (is_transferring_of v n) (live_count v)

-- 16 data transfer: DRDY# is at c, and no request's data are on the way; or DBSY# is not at c, and some are still on
-- the way after c; or it is at c, and none are
unfoldable pub is_data_wrong : Trace → ℕ → Bool
is_data_wrong v c =
    line_at DRDY v c && not (is_transferring v c)
    || not (line_at DBSY v c) && is_transferring v (c + 1)
    || line_at DBSY v c && not (is_transferring v (c + 1))

-- 17 known data: DRDY# is at c, and a bit of D is unknown
unfoldable pub has_unknown_data : Trace → ℕ → Bool
has_unknown_data v c = line_at DRDY v c && option_map_or (λ s. not (is_known_word s.dbus)) (slice_get v c) false

-- live request i may be answered by a reply that begins at q: it is Deferred, has this request's ID and its response
-- below q, and is not answered
unfoldable pub awaits_reply : Trace → ℕ → ℕ → Bool
awaits_reply v q i =
    is_deferred v i && have_same_id (live_request_of v i) (request_at v q) && is_before (response_clock_of v i) q
    && not (is_answered v q i)

-- the request that begins at p is outstanding at q, and has the ID of the one that begins at q
unfoldable pub is_id_taken_by : Trace → ℕ → ℕ → Bool
is_id_taken_by v q p = is_outstanding v q p && have_same_id (request_at v p) (request_at v q)

-- the request that begins at p is outstanding at q, and is of the agent that begins one at q
unfoldable pub is_outstanding_of_winner : Trace → ℕ → ℕ → Bool
is_outstanding_of_winner v q p = is_outstanding v q p && is_some_and (winner_at v q) (is_agent (winner_at v p))

-- the request that begins at q is a reply that no Deferred request awaits; or it is no reply, and its ID is taken by
-- an outstanding request, or its agent has four or more of them
unfoldable pub is_begun_wrongly : Trace → ℕ → Bool
is_begun_wrongly v q =
    if is_reply (request_at v q)
    then not (any_where (awaits_reply v q) (live_count v))
    else any_where (is_id_taken_by v q) q || nat_le 4 (count_where (is_outstanding_of_winner v q) q)

-- 18 deferred IDs and outstanding requests: ADS# is at c - 1, and that request is begun wrongly
unfoldable pub is_outstanding_wrong : Trace → ℕ → Bool
is_outstanding_wrong v c = line_back ADS v c 1 && is_begun_wrongly v (c - 1)

-- the two clocks of a request that has its first clock at c or at c - 1 have parity; c is one of them
unfoldable pub has_parity_at : Trace → ℕ → Bool
has_parity_at v c = line_at ADS v c || line_back ADS v c 1

-- 19 address parity: ADS# is at c or at c - 1, nothing of the address and its parity is unknown at c, and the parity
-- of its low or of its high part is odd
unfoldable pub is_address_parity_wrong : Trace → ℕ → Bool
is_address_parity_wrong v c = has_parity_at v c && option_map_or is_address_odd (slice_get v c) false

-- 20 request parity: ADS# is at c or at c - 1, nothing of the request and its parity is unknown at c, and the parity
-- is odd
unfoldable pub is_request_parity_wrong : Trace → ℕ → Bool
is_request_parity_wrong v c = has_parity_at v c && option_map_or is_request_odd (slice_get v c) false

-- rule 19 where the dump declares the address parity
unfoldable pub is_marked_address_wrong : Marks → Trace → ℕ → Bool
is_marked_address_wrong m v c = m.ap && is_address_parity_wrong v c

-- rule 20 where the dump declares the request parity
unfoldable pub is_marked_request_wrong : Marks → Trace → ℕ → Bool
is_marked_request_wrong m v c = m.rp && is_request_parity_wrong v c

-- the rules in their order, for a dump with these marks
unfoldable pub phase_rules : Marks → List (Trace → ℕ → Bool)
phase_rules m =
    has_unknown_line ∷ is_request_too_soon ∷ is_code_unlawful ∷ is_queue_full ∷ is_request_blocked ∷ has_no_winner
    ∷ is_identity_wrong ∷ is_some_asked_wrongly ∷ is_lock_alone ∷ is_error_alone ∷ is_snoop_line_alone
    ∷ is_snoop_result_unfit ∷ is_response_early ∷ is_code_wrong ∷ is_target_ready_wrong ∷ is_data_wrong
    ∷ has_unknown_data ∷ is_outstanding_wrong ∷ is_marked_address_wrong m ∷ is_marked_request_wrong m ∷ []

-- rule j, from 1, is broken at the last clock c of v, in a dump with these marks
unfoldable pub breaks : Marks → Trace → ℕ → ℕ → Bool
breaks m v c zero = false
breaks m v c (suc j) = elim (slice_get (phase_rules m) j) [ Some rule ↦ rule v c | None ↦ false ]
