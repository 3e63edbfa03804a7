-- Worked values of single words: on the runs of Rows, and on short traces that tell one word apart from its neighbours.
use Rattle.std.proofs.Common.{◌≡◌, refl, lit<, List, [], ◌∷◌, ◌++◌, take, Some, None, true, false}
use Rattle.std.specs.Int.Bits.{and_zero_r}
use Rattle.fsb_signal.specs.declared.lines.Lines.{Lines}
use Rattle.fsb_signal.specs.declared.sample.Sample.{Sample}
use Rattle.fsb_signal.specs.declared.sample.Word.{Word}
use Rattle.fsb_signal.specs.declared.lines.TheConstants.Lines.{BREQ0, BREQ1, BREQ2, BREQ3, BPRI, LOCK, ADS, AERR, HIT}
use Rattle.fsb_signal.specs.declared.lines.TheConstants.Lines.{HITM, DEFER, RS0, RS1, RS2, TRDY, DBSY, DRDY, AP0, AP1}
use Rattle.fsb_signal.specs.declared.lines.TheConstants.Lines.{RP}
use Rattle.fsb_trace.specs.declared.who.Who.TheVariants.{Symmetric, Priority}
use Rattle.fsb_trace.specs.declared.outcome.Outcome.TheVariants.{Handed, Retried, Deferred, Written, Replied, Failed}
use Rattle.fsb_trace.specs.declared.outcome.Outcome.TheVariants.{Upgraded}
use Rattle.fsb_count.specs.Options.{is_some_and, is_before, is_at, greater_of}
use Rattle.fsb_count.specs.Clocks.{first_where, last_where, any_where, count_where, all_where, nth_where, from_clock}
use Rattle.fsb_count.specs.Clocks.{holds_since}
use Rattle.std.specs.Int.Count.{ones}
use Rattle.fsb_signal.specs.Samples.{line_at}
use Rattle.fsb_signal.specs.Parity.{is_address_odd, is_request_odd}
use Rattle.fsb_encode.specs.Request.{is_lawful_request, are_lawful_fields, high_bit, den_bit, clocks, row_of, pairs_of}
use Rattle.fsb_encode.specs.Decoded.{req_words, kind_of, read_off, is_pair, is_coded_as, if_coded_as, request_of}
use Rattle.fsb_trace.specs.At.{Trace, line_back, response_code_at, responds_at, stalls_at, known_pair, known_pair_at}
use Rattle.fsb_trace.specs.At.{request_at}
use Rattle.fsb_trace.specs.Winner.{bus_request_of, request_line_of, is_same_agent, is_agent, no_requesters}
use Rattle.fsb_trace.specs.Winner.{symmetric_after, then_begun, first_in_order, agent_in_order, asks_in_order}
use Rattle.fsb_trace.specs.Winner.{first_asking, last_if_asking, winner_by, winner_after, requesters_before, winner_at}
use Rattle.fsb_trace.specs.Winner.{last_agent, last_symmetric, begins_at}
use Rattle.fsb_trace.specs.Requests.{is_cancelled, seen_at, requests_of, first_clock_of, is_live, live_count}
use Rattle.fsb_trace.specs.Requests.{live_clock_of, live_number_of, live_request_of, is_reply_kind, is_write_back_kind}
use Rattle.fsb_trace.specs.Requests.{is_upgrade_kind, is_reply, is_write_back, is_upgrade, have_same_id, line_of}
use Rattle.fsb_trace.specs.Snoop.{is_every_second_from, ends_snoop, snoop_end_from, snoop_end_if, start_after_clock}
use Rattle.fsb_trace.specs.Snoop.{start_after_end, snoop_end_of, snoop_start_of, is_snoop_clock_of, is_snoop_clock}
use Rattle.fsb_trace.specs.Snoop.{line_at_snoop_end}
use Rattle.fsb_trace.specs.Outcome.{does_move, response_code_of, is_deferral, outcome_by_kind, response_clock_of}
use Rattle.fsb_trace.specs.Outcome.{live_response_of, told_by, outcome_of, moves_data, is_deferred, settled_by}
use Rattle.fsb_trace.specs.Outcome.{settled_outcome_of, is_settled_deferred}
use Rattle.fsb_trace.specs.Response.{takes, data_clock_of, end_of, is_clear_before, clock_after_snoop, ready_after}
use Rattle.fsb_trace.specs.Response.{ready_clock_of}
use Rattle.fsb_trace.specs.Flight.{is_dropped, has_ended, is_in_flight, in_flight, is_reply_to, is_live_reply_to}
use Rattle.fsb_trace.specs.Flight.{reply_clock_of, reply_number_of, reply_end_of, last_clock_of, is_finished}
use Rattle.fsb_trace.specs.Flight.{is_outstanding, outstanding}
use Rattle.fsb_trace.specs.Deferral.{answers, is_answered, later_of, is_due, due_at, keeps_pending, is_pending}
use Rattle.fsb_trace.specs.Rules.{has_unknown_line, is_request_too_soon, is_code_unlawful, is_queue_full}
use Rattle.fsb_trace.specs.Rules.{is_request_blocked, has_no_winner, is_own_id, is_identified, is_identity_wrong}
use Rattle.fsb_trace.specs.Rules.{is_asked_wrongly, is_some_asked_wrongly, is_lock_alone, is_error_alone}
use Rattle.fsb_trace.specs.Rules.{is_snoop_line_alone, is_result_unfit_for, is_snoop_result_unfit, next_response}
use Rattle.fsb_trace.specs.Rules.{may_answer, is_response_early, has_den, is_code_for, responds_soundly, has_code_at}
use Rattle.fsb_trace.specs.Rules.{is_code_wrong, is_ready_in_time, is_ready_wrongly, is_target_ready_wrong}
use Rattle.fsb_trace.specs.Rules.{is_transferring_of, is_transferring, is_data_wrong, has_unknown_data, awaits_reply}
use Rattle.fsb_trace.specs.Rules.{is_id_taken_by, is_outstanding_of_winner, is_begun_wrongly, is_outstanding_wrong}
use Rattle.fsb_trace.specs.Rules.{has_parity_at, is_address_parity_wrong, is_request_parity_wrong}
use Rattle.fsb_trace.specs.Rules.{is_marked_address_wrong, is_marked_request_wrong, phase_rules, breaks}
use Rattle.fsb_trace.specs.Verdict.{is_broken, least_rule, breaks_a_rule, verdict}
use Rattle.fsb_trace.proofs.LaidOut.{no_marks, both_marks, clock, idle, word, bits_of}
use Rattle.fsb_trace.proofs.Rows.{two_agents_overlap, store_handed_over_before_arrival, cancelled_by_address_error}
use Rattle.fsb_trace.proofs.Rows.{deferred_and_replied, write_back_held_off}

-- a clock with these lines and quiet words
abbrev lines : List Lines → Sample
lines asserted = clock asserted 0x0 0x0

-- all four symmetric agents ask, and each winner begins a request
abbrev four_in_turn : Trace
four_in_turn =
    lines (BREQ0 ∷ BREQ1 ∷ BREQ2 ∷ BREQ3 ∷ [])
    ∷ lines (BREQ0 ∷ BREQ1 ∷ BREQ2 ∷ BREQ3 ∷ [])
    ∷ lines (BREQ0 ∷ BREQ1 ∷ BREQ2 ∷ BREQ3 ∷ ADS ∷ [])
    ∷ lines (BREQ0 ∷ BREQ1 ∷ BREQ2 ∷ BREQ3 ∷ [])
    ∷ lines (BREQ0 ∷ BREQ1 ∷ BREQ2 ∷ BREQ3 ∷ [])
    ∷ lines (BREQ0 ∷ BREQ1 ∷ BREQ2 ∷ BREQ3 ∷ ADS ∷ [])
    ∷ lines (BREQ0 ∷ BREQ1 ∷ BREQ2 ∷ BREQ3 ∷ [])
    ∷ lines (BREQ0 ∷ BREQ1 ∷ BREQ2 ∷ BREQ3 ∷ [])
    ∷ lines (BREQ0 ∷ BREQ1 ∷ BREQ2 ∷ BREQ3 ∷ ADS ∷ [])
    ∷ lines (BREQ0 ∷ BREQ1 ∷ BREQ2 ∷ BREQ3 ∷ [])
    ∷ lines (BREQ0 ∷ BREQ1 ∷ BREQ2 ∷ BREQ3 ∷ [])
    ∷ lines (BREQ0 ∷ BREQ1 ∷ BREQ2 ∷ BREQ3 ∷ ADS ∷ [])
    ∷ lines (BREQ0 ∷ BREQ1 ∷ BREQ2 ∷ BREQ3 ∷ [])
    ∷ []

abbrev four_in_turn-says : Type 0
four_in_turn-says =
    (winner_at four_in_turn 0 ≡ None)
    × (winner_at four_in_turn 1 ≡ None)
    × (winner_at four_in_turn 2 ≡ Some (Symmetric 0))
    × (winner_at four_in_turn 5 ≡ Some (Symmetric 1))
    × (winner_at four_in_turn 8 ≡ Some (Symmetric 2))
    × (winner_at four_in_turn 11 ≡ Some (Symmetric 3))
    × (winner_at four_in_turn 14 ≡ Some (Symmetric 0))
    × (last_agent four_in_turn 8 ≡ Some (Symmetric 1))
    × (last_symmetric four_in_turn 8 ≡ Some 1)

-- two agents of which one asks at a time
abbrev one_asks : Trace
one_asks = lines (BREQ2 ∷ []) ∷ lines (BREQ3 ∷ []) ∷ []

abbrev one_asks-says : Type 0
one_asks-says =
    (winner_at one_asks 2 ≡ Some (Symmetric 2))
    × (winner_at one_asks 3 ≡ Some (Symmetric 3))

-- the priority agent wins over one that asks too, and the order goes on behind the last symmetric agent
abbrev priority_between : Trace
priority_between =
    lines (BREQ0 ∷ [])
    ∷ lines (BREQ0 ∷ [])
    ∷ lines (BREQ0 ∷ ADS ∷ [])
    ∷ lines (BREQ1 ∷ BPRI ∷ [])
    ∷ lines (BREQ1 ∷ BPRI ∷ [])
    ∷ lines (BREQ1 ∷ BPRI ∷ ADS ∷ [])
    ∷ lines (BREQ0 ∷ BREQ1 ∷ [])
    ∷ []

abbrev priority_between-says : Type 0
priority_between-says =
    (winner_at priority_between 5 ≡ Some Priority)
    × (last_agent priority_between 6 ≡ Some Priority)
    × (last_symmetric priority_between 6 ≡ Some 0)
    × (winner_at priority_between 8 ≡ Some (Symmetric 1))

-- with LOCK# the last requester wins while it asks, and nobody does while it does not, whoever else asks
abbrev bus_locked : Trace
bus_locked =
    lines (BREQ0 ∷ BREQ1 ∷ [])
    ∷ lines (BREQ0 ∷ BREQ1 ∷ [])
    ∷ lines (BREQ0 ∷ BREQ1 ∷ LOCK ∷ ADS ∷ [])
    ∷ lines (BREQ1 ∷ BPRI ∷ LOCK ∷ [])
    ∷ lines (BREQ0 ∷ BREQ1 ∷ BPRI ∷ LOCK ∷ [])
    ∷ lines (BREQ0 ∷ BREQ1 ∷ [])
    ∷ []

abbrev bus_locked-says : Type 0
bus_locked-says =
    (winner_at bus_locked 2 ≡ Some (Symmetric 0))
    × (winner_at bus_locked 5 ≡ None)
    × (winner_at bus_locked 6 ≡ Some (Symmetric 0))
    × (winner_at bus_locked 7 ≡ Some (Symmetric 1))

-- a request without a winner: no agent began the last request then, and the order goes on as before
abbrev begun_by_nobody : Trace
begun_by_nobody =
    lines (BREQ0 ∷ [])
    ∷ lines (BREQ0 ∷ [])
    ∷ lines (BREQ0 ∷ ADS ∷ [])
    ∷ idle
    ∷ idle
    ∷ lines (ADS ∷ [])
    ∷ lines (BREQ0 ∷ BREQ1 ∷ LOCK ∷ [])
    ∷ lines (BREQ0 ∷ BREQ1 ∷ [])
    ∷ []

abbrev begun_by_nobody-says : Type 0
begun_by_nobody-says =
    (winner_at begun_by_nobody 5 ≡ None)
    × (last_agent begun_by_nobody 6 ≡ None)
    × (winner_at begun_by_nobody 8 ≡ None)
    × (winner_at begun_by_nobody 9 ≡ Some (Symmetric 1))

-- a request that is cancelled later counts for the order, and is no live one
abbrev cancelled_in_turn : Trace
cancelled_in_turn =
    lines (BREQ0 ∷ BREQ1 ∷ [])
    ∷ lines (BREQ0 ∷ BREQ1 ∷ [])
    ∷ lines (BREQ0 ∷ BREQ1 ∷ ADS ∷ [])
    ∷ lines (BREQ1 ∷ [])
    ∷ lines (BREQ1 ∷ [])
    ∷ lines (BREQ1 ∷ AERR ∷ [])
    ∷ lines (BREQ0 ∷ BREQ1 ∷ [])
    ∷ []

abbrev cancelled_in_turn-says : Type 0
cancelled_in_turn-says =
    (winner_at cancelled_in_turn 8 ≡ Some (Symmetric 1))
    × (live_count cancelled_in_turn ≡ 0)

-- the first snoop is stalled twice, and the next one starts three clocks after its end
abbrev stall_moves_the_next : Trace
stall_moves_the_next =
    lines (BREQ0 ∷ BREQ1 ∷ [])
    ∷ lines (BREQ0 ∷ BREQ1 ∷ [])
    ∷ clock (BREQ0 ∷ BREQ1 ∷ ADS ∷ []) 0x6 0x8
    ∷ clock (BREQ1 ∷ []) 0x2 0x2
    ∷ lines (BREQ1 ∷ [])
    ∷ clock (BREQ1 ∷ ADS ∷ []) 0x6 0x10
    ∷ clock (HIT ∷ HITM ∷ []) 0x2 0x20002
    ∷ idle
    ∷ lines (HIT ∷ HITM ∷ [])
    ∷ idle
    ∷ idle
    ∷ idle
    ∷ lines (RS0 ∷ RS1 ∷ RS2 ∷ DBSY ∷ DRDY ∷ [])
    ∷ lines (DBSY ∷ DRDY ∷ [])
    ∷ lines (DBSY ∷ DRDY ∷ [])
    ∷ lines (DRDY ∷ [])
    ∷ lines (RS0 ∷ RS1 ∷ RS2 ∷ DBSY ∷ DRDY ∷ [])
    ∷ lines (DBSY ∷ DRDY ∷ [])
    ∷ lines (DBSY ∷ DRDY ∷ [])
    ∷ lines (DRDY ∷ [])
    ∷ []

abbrev stall_moves_the_next-says : Type 0
stall_moves_the_next-says =
    (snoop_end_of stall_moves_the_next 0 ≡ Some 10)
    × (snoop_start_of stall_moves_the_next 1 ≡ Some 13)
    × (snoop_end_of stall_moves_the_next 1 ≡ Some 13)
    × (is_snoop_clock stall_moves_the_next 6 ≡ true)
    × (is_snoop_clock stall_moves_the_next 7 ≡ false)
    × (is_snoop_clock stall_moves_the_next 8 ≡ true)
    × (is_snoop_clock stall_moves_the_next 12 ≡ false)
    × (is_snoop_clock stall_moves_the_next 13 ≡ true)
    × (is_snoop_clock stall_moves_the_next 15 ≡ false)
    × (end_of stall_moves_the_next 1 ≡ Some 19)
    × (verdict no_marks stall_moves_the_next ≡ None)
    × (snoop_start_of (take 6 stall_moves_the_next) 1 ≡ None)

-- a load whose line another agent owns (HITM#), up to its response clock
abbrev owned_load : List Lines → Trace
owned_load response =
    lines (BREQ0 ∷ [])
    ∷ lines (BREQ0 ∷ [])
    ∷ clock (BREQ0 ∷ ADS ∷ []) 0x6 0x8
    ∷ clock [] 0x2 0x2
    ∷ idle
    ∷ idle
    ∷ lines (HITM ∷ [])
    ∷ idle
    ∷ lines response
    ∷ []

-- a hard failure ends the request whatever its snoop said; a code that its snoop does not allow tells what the
-- snoop said
abbrev owned_load-says : Type 0
owned_load-says =
    (outcome_of (owned_load (RS2 ∷ [])) 0 ≡ Some Failed)
    × (end_of (owned_load (RS2 ∷ [])) 0 ≡ Some 8)
    × (verdict no_marks (owned_load (RS2 ∷ [])) ≡ None)
    × (outcome_of (owned_load (RS0 ∷ [])) 0 ≡ Some Handed)
    × (verdict no_marks (owned_load (RS0 ∷ [])) ≡ Some (8, 14))

-- a line that has been written is written back
abbrev written_back : Trace
written_back =
    lines (BREQ0 ∷ [])
    ∷ lines (BREQ0 ∷ [])
    ∷ clock (BREQ0 ∷ ADS ∷ []) 0x5 0x8
    ∷ clock [] 0x2 0x0
    ∷ idle
    ∷ idle
    ∷ idle
    ∷ idle
    ∷ lines (TRDY ∷ [])
    ∷ idle
    ∷ lines (RS0 ∷ RS2 ∷ DBSY ∷ DRDY ∷ [])
    ∷ lines (DBSY ∷ DRDY ∷ [])
    ∷ lines (DBSY ∷ DRDY ∷ [])
    ∷ lines (DRDY ∷ [])
    ∷ []

abbrev written_back-says : Type 0
written_back-says =
    (outcome_of written_back 0 ≡ Some Written)
    × (takes written_back 0 ≡ true)
    × (ready_clock_of written_back 0 ≡ Some 8)
    × (end_of written_back 0 ≡ Some 13)
    × (verdict no_marks written_back ≡ None)
    × (response_code_of Replied ≡ 0b111)
    × (ready_clock_of (take 7 written_back ++ lines (TRDY ∷ []) ∷ lines (TRDY ∷ []) ∷ []) 0 ≡ Some 8)

-- a lock that begins with the trace and with no request
abbrev lock_at_first-says : Type 0
lock_at_first-says = verdict no_marks (lines (LOCK ∷ []) ∷ []) ≡ Some (0, 9)

-- an address word, and a REQ word, with an unknown bit
abbrev unclear : Word
unclear = record { bits = 0x8; unknown = 1; disjoint = refl }

abbrev unclear_code : Word
unclear_code = record { bits = 0x6; unknown = 8; disjoint = refl }

-- the first clock of a load, with an unknown bit of the address or of REQ
abbrev unclear_address : Sample
unclear_address =
    record {
      lines = record { 0 = bits_of (BREQ0 ∷ ADS ∷ []) };
      unknown = record { 0 = 0 };
      req = word 0x6;
      addr = unclear;
      dbus = word 0;
      disjoint = and_zero_r (bits_of (BREQ0 ∷ ADS ∷ []));
      line_bits = lit< tt;
      line_unknown = lit< tt;
      req_bits = lit< tt;
      req_unknown = lit< tt;
      addr_bits = lit< tt;
      addr_unknown = lit< tt;
    }

abbrev unclear_req : Sample
unclear_req =
    record {
      lines = record { 0 = bits_of (BREQ0 ∷ ADS ∷ []) };
      unknown = record { 0 = 0 };
      req = unclear_code;
      addr = word 0x8;
      dbus = word 0;
      disjoint = and_zero_r (bits_of (BREQ0 ∷ ADS ∷ []));
      line_bits = lit< tt;
      line_unknown = lit< tt;
      req_bits = lit< tt;
      req_unknown = lit< tt;
      addr_bits = lit< tt;
      addr_unknown = lit< tt;
    }

-- a load that begins with this clock
abbrev load_from : Sample → Trace
load_from first = lines (BREQ0 ∷ []) ∷ lines (BREQ0 ∷ []) ∷ first ∷ clock [] 0x2 0x2 ∷ []

abbrev unclear_words-say : Type 0
unclear_words-say =
    (request_at (load_from unclear_address) 2 ≡ None)
    × (request_at (load_from unclear_req) 2 ≡ None)
    × (verdict no_marks (load_from unclear_address) ≡ Some (3, 3))
    × (verdict no_marks (load_from unclear_req) ≡ Some (3, 3))
    × (verdict no_marks (load_from (clock (BREQ0 ∷ ADS ∷ []) 0x6 0x8)) ≡ None)

-- a second load with the ID of the first, which is outstanding
abbrev id_in_use : Trace
id_in_use =
    lines (BREQ0 ∷ [])
    ∷ lines (BREQ0 ∷ [])
    ∷ clock (BREQ0 ∷ ADS ∷ []) 0x6 0x8
    ∷ clock [] 0x2 0x2
    ∷ lines (BREQ0 ∷ [])
    ∷ lines (BREQ0 ∷ [])
    ∷ clock (BREQ0 ∷ ADS ∷ []) 0x6 0x10
    ∷ clock [] 0x2 0x2
    ∷ []

abbrev id_in_use-says : Type 0
id_in_use-says = verdict no_marks id_in_use ≡ Some (7, 18)

-- of the run of two agents, the one in which a line is handed on, and the one with a cancelled request
abbrev two_agents-say : Type 0
two_agents-say =
    (is_snoop_clock two_agents_overlap 6 ≡ true)
    × (is_snoop_clock (take 6 two_agents_overlap) 6 ≡ false)
    × (is_snoop_clock two_agents_overlap 8 ≡ false)
    × (is_clear_before two_agents_overlap 1 11 ≡ false)
    × (is_clear_before two_agents_overlap 1 12 ≡ true)
    × (is_in_flight two_agents_overlap 2 2 ≡ false)
    × (in_flight two_agents_overlap 2 ≡ [])
    × (in_flight two_agents_overlap 11 ≡ 2 ∷ 5 ∷ [])
    × (in_flight two_agents_overlap 12 ≡ 5 ∷ [])
    × (in_flight two_agents_overlap 16 ≡ [])
    × (data_clock_of two_agents_overlap 0 3 ≡ Some 11)
    × (data_clock_of two_agents_overlap 0 4 ≡ None)
    × (ready_after two_agents_overlap 2 ≡ None)
    × (takes store_handed_over_before_arrival 0 ≡ false)
    × (takes store_handed_over_before_arrival 1 ≡ true)
    × (ready_after store_handed_over_before_arrival 1 ≡ Some 11)
    × (settled_outcome_of store_handed_over_before_arrival (0 ∷ 1 ∷ []) 1 ≡ Some Handed)
    × (ready_after write_back_held_off 1 ≡ Some 18)
    × (live_number_of cancelled_by_address_error 8 ≡ 0)
    × (outstanding cancelled_by_address_error 5 ≡ 2 ∷ [])
    × (outstanding cancelled_by_address_error 6 ≡ [])
    × (in_flight cancelled_by_address_error 17 ≡ 8 ∷ [])
    × (in_flight cancelled_by_address_error 18 ≡ [])

-- of the deferred load: which request is a reply to which, and what is put off by none
abbrev deferral-says : Type 0
deferral-says =
    (is_reply_to deferred_and_replied 0 21 ≡ true)
    × (is_reply_to deferred_and_replied 1 21 ≡ false)
    × (is_reply_to deferred_and_replied 1 14 ≡ false)
    × (is_reply_to deferred_and_replied 3 21 ≡ false)
    × (is_answered deferred_and_replied 21 0 ≡ false)
    × (is_answered deferred_and_replied 22 0 ≡ true)
    × (is_answered deferred_and_replied 34 0 ≡ true)
    × (outstanding deferred_and_replied 9 ≡ 2 ∷ 5 ∷ [])
    × (outstanding deferred_and_replied 12 ≡ 2 ∷ [])
    × (outstanding deferred_and_replied 25 ≡ 2 ∷ 24 ∷ [])
    × (line_of deferred_and_replied 2 ≡ Some 0x80)
    × (line_of deferred_and_replied 21 ≡ None)
    × (is_pending deferred_and_replied (12 ∷ 1 ∷ 1 ∷ 0 ∷ 0 ∷ []) 0x81 7 ≡ false)
    × (settled_outcome_of deferred_and_replied (2 ∷ []) 0 ≡ Some Deferred)
    × (settled_outcome_of deferred_and_replied (1 ∷ []) 0 ≡ Some Retried)
    × (due_at deferred_and_replied (2 ∷ 1 ∷ 1 ∷ []) 8 ≡ None)
    × (due_at deferred_and_replied (2 ∷ 1 ∷ 1 ∷ []) 9 ≡ Some 0)

-- the same with the reply cancelled: it answers while it is in flight, and then the deferral is due again
abbrev reply_cancelled : Trace
reply_cancelled = take 24 deferred_and_replied ++ lines (BREQ1 ∷ AERR ∷ []) ∷ lines (BREQ1 ∷ []) ∷ []

abbrev reply_cancelled-says : Type 0
reply_cancelled-says =
    (reply_clock_of reply_cancelled 0 ≡ None)
    × (is_answered reply_cancelled 22 0 ≡ true)
    × (is_answered reply_cancelled 24 0 ≡ true)
    × (is_answered reply_cancelled 25 0 ≡ false)
    × (outstanding reply_cancelled 25 ≡ 2 ∷ [])
    × (due_at reply_cancelled (12 ∷ 1 ∷ 1 ∷ 0 ∷ []) 24 ≡ None)
    × (due_at reply_cancelled (12 ∷ 1 ∷ 1 ∷ 0 ∷ []) 25 ≡ Some 0)
    × (is_pending reply_cancelled (12 ∷ 1 ∷ 1 ∷ 0 ∷ []) 0x80 25 ≡ true)

-- an upgrade of address 40, with these lines at its snoop end and after it
abbrev upgrade : List Lines → Trace → Trace
upgrade snooped after =
    lines (BREQ0 ∷ [])
    ∷ lines (BREQ0 ∷ [])
    ∷ clock (BREQ0 ∷ ADS ∷ []) 0x2 0x8
    ∷ idle
    ∷ idle
    ∷ idle
    ∷ lines snooped
    ∷ idle
    ∷ after

-- the same with its response two clocks after its snoop end
abbrev upgrade_answered : List Lines → List Lines → Trace
upgrade_answered snooped response = upgrade snooped (lines response ∷ [])

-- the same that has lost its race to the line's new owner, with this response and its first data
abbrev upgrade_lost : List Lines → Trace
upgrade_lost response = upgrade (HITM ∷ []) (lines (TRDY ∷ []) ∷ idle ∷ lines response ∷ [])

-- it moves no data unless it lost its race, and with DEFER# it is retried and never deferred
abbrev upgrade-says : Type 0
upgrade-says =
    (outcome_of (upgrade_answered [] (RS2 ∷ RS0 ∷ [])) 0 ≡ Some Upgraded)
    × (end_of (upgrade_answered [] (RS2 ∷ RS0 ∷ [])) 0 ≡ Some 8)
    × (verdict no_marks (upgrade_answered [] (RS2 ∷ RS0 ∷ [])) ≡ None)
    × (verdict no_marks (upgrade_answered [] (RS2 ∷ RS1 ∷ RS0 ∷ DRDY ∷ DBSY ∷ [])) ≡ Some (8, 14))
    × (verdict no_marks (upgrade_answered [] (RS2 ∷ RS1 ∷ DRDY ∷ DBSY ∷ [])) ≡ Some (8, 14))
    × (verdict no_marks (upgrade_answered (HIT ∷ []) (RS2 ∷ RS0 ∷ [])) ≡ None)
    × (outcome_of (upgrade_answered (DEFER ∷ []) (RS0 ∷ [])) 0 ≡ Some Retried)
    × (verdict no_marks (upgrade_answered (DEFER ∷ []) (RS0 ∷ [])) ≡ None)
    × (verdict no_marks (upgrade_answered (DEFER ∷ []) (RS1 ∷ [])) ≡ Some (8, 14))
    × (verdict no_marks (upgrade_answered (DEFER ∷ []) (RS2 ∷ RS0 ∷ [])) ≡ Some (8, 14))
    × (outcome_of (upgrade_lost (RS2 ∷ RS1 ∷ DRDY ∷ DBSY ∷ [])) 0 ≡ Some Handed)
    × (takes (upgrade_lost (RS2 ∷ RS1 ∷ DRDY ∷ DBSY ∷ [])) 0 ≡ true)
    × (verdict no_marks (upgrade_lost (RS2 ∷ RS1 ∷ DRDY ∷ DBSY ∷ [])) ≡ None)
    × (verdict no_marks (upgrade_lost (RS2 ∷ RS0 ∷ [])) ≡ Some (10, 14))
    × (settled_outcome_of (upgrade [] []) (0 ∷ []) 0 ≡ Some Upgraded)

-- the two clocks of a load of address 40 with these parity lines
abbrev load_with : List Lines → List Lines → Trace
load_with first second =
    lines (BREQ0 ∷ []) ∷ lines (BREQ0 ∷ []) ∷ clock (BREQ0 ∷ ADS ∷ first) 0x6 0x8 ∷ clock second 0x2 0x2 ∷ []

-- both clocks of a request have even parity, each rule where its line is declared, and no other clock
abbrev parity-says : Type 0
parity-says =
    (verdict both_marks (load_with (AP0 ∷ RP ∷ []) (AP0 ∷ RP ∷ [])) ≡ None)
    × (verdict both_marks (load_with (AP0 ∷ []) (AP0 ∷ RP ∷ [])) ≡ Some (2, 20))
    × (verdict both_marks (load_with (RP ∷ []) (AP0 ∷ RP ∷ [])) ≡ Some (2, 19))
    × (verdict both_marks (load_with (AP0 ∷ AP1 ∷ RP ∷ []) (AP0 ∷ RP ∷ [])) ≡ Some (2, 19))
    × (verdict both_marks (load_with (AP0 ∷ RP ∷ []) (AP0 ∷ AP1 ∷ RP ∷ [])) ≡ Some (3, 19))
    × (verdict both_marks (load_with (AP0 ∷ RP ∷ []) (AP0 ∷ [])) ≡ Some (3, 20))
    × (verdict no_marks (load_with [] []) ≡ None)
    × (verdict (record { ap = true; rp = false }) (load_with (AP0 ∷ []) (AP0 ∷ [])) ≡ None)
    × (verdict (record { ap = true; rp = false }) (load_with [] []) ≡ Some (2, 19))
    × (verdict (record { ap = false; rp = true }) (load_with (RP ∷ []) (RP ∷ [])) ≡ None)
    × (verdict (record { ap = false; rp = true }) (load_with [] []) ≡ Some (2, 20))
    × (verdict both_marks (lines (AP0 ∷ RP ∷ []) ∷ []) ≡ None)

-- a response of no live request is counted, and tells no outcome
abbrev stray_response-says : Type 0
stray_response-says =
    (response_clock_of (lines (RS0 ∷ []) ∷ []) 0 ≡ Some 0)
    × (outcome_of (lines (RS0 ∷ []) ∷ []) 0 ≡ None)
    × (end_of (lines (RS0 ∷ []) ∷ []) 0 ≡ None)

-- all of the above
pub values_hold :
    four_in_turn-says
    × one_asks-says
    × priority_between-says
    × bus_locked-says
    × begun_by_nobody-says
    × cancelled_in_turn-says
    × stall_moves_the_next-says
    × owned_load-says
    × written_back-says
    × lock_at_first-says
    × unclear_words-say
    × id_in_use-says
    × two_agents-say
    × deferral-says
    × reply_cancelled-says
    × upgrade-says
    × parity-says
    × stray_response-says
unfolding is_some_and is_before is_at greater_of first_where last_where any_where count_where all_where nth_where
    from_clock holds_since line_at is_lawful_request are_lawful_fields high_bit den_bit clocks row_of pairs_of
    req_words kind_of read_off is_pair is_coded_as if_coded_as request_of line_back response_code_at responds_at
    stalls_at known_pair known_pair_at request_at bus_request_of request_line_of is_same_agent is_agent no_requesters
    symmetric_after then_begun first_in_order agent_in_order asks_in_order first_asking last_if_asking winner_by
    winner_after
    requesters_before winner_at last_agent last_symmetric begins_at is_cancelled seen_at requests_of
    first_clock_of is_live
    live_count live_clock_of live_number_of live_request_of is_reply_kind is_write_back_kind
    is_upgrade_kind is_reply is_write_back is_upgrade
    have_same_id line_of is_every_second_from ends_snoop snoop_end_from snoop_end_if start_after_clock start_after_end
    snoop_end_of snoop_start_of is_snoop_clock_of is_snoop_clock line_at_snoop_end does_move response_code_of
    is_deferral outcome_by_kind response_clock_of live_response_of told_by outcome_of moves_data is_deferred settled_by
    settled_outcome_of is_settled_deferred takes data_clock_of end_of is_clear_before clock_after_snoop ready_after
    ready_clock_of is_dropped has_ended is_in_flight in_flight is_reply_to is_live_reply_to reply_clock_of
    reply_number_of reply_end_of last_clock_of is_finished is_outstanding outstanding answers is_answered later_of
    is_due due_at keeps_pending is_pending has_unknown_line is_request_too_soon is_code_unlawful is_queue_full
    is_request_blocked has_no_winner is_own_id is_identified is_identity_wrong is_asked_wrongly is_some_asked_wrongly
    is_lock_alone is_error_alone is_snoop_line_alone is_result_unfit_for is_snoop_result_unfit next_response
    may_answer is_response_early has_den is_code_for responds_soundly has_code_at is_code_wrong is_ready_in_time
    is_ready_wrongly is_target_ready_wrong is_transferring_of is_transferring is_data_wrong has_unknown_data
    awaits_reply is_id_taken_by is_outstanding_of_winner is_begun_wrongly is_outstanding_wrong has_parity_at
    is_address_parity_wrong is_request_parity_wrong is_marked_address_wrong is_marked_request_wrong is_address_odd
    is_request_odd ones phase_rules breaks
    is_broken least_rule breaks_a_rule verdict
values_hold = (
  (refl, refl, refl, refl, refl, refl, refl, refl, refl),
  (refl, refl),
  (refl, refl, refl, refl),
  (refl, refl, refl, refl),
  (refl, refl, refl, refl),
  (refl, refl),
  (refl, refl, refl, refl, refl, refl, refl, refl, refl, refl, refl, refl),
  (refl, refl, refl, refl, refl),
  (refl, refl, refl, refl, refl, refl, refl),
  refl,
  (refl, refl, refl, refl, refl),
  refl,
  (
    refl,
    refl,
    refl,
    refl,
    refl,
    refl,
    refl,
    refl,
    refl,
    refl,
    refl,
    refl,
    refl,
    refl,
    refl,
    refl,
    refl,
    refl,
    refl,
    refl,
    refl,
    refl,
    refl,
  ),
  (
    refl,
    refl,
    refl,
    refl,
    refl,
    refl,
    refl,
    refl,
    refl,
    refl,
    refl,
    refl,
    refl,
    refl,
    refl,
    refl,
    refl,
  ),
  (refl, refl, refl, refl, refl, refl, refl, refl),
  (refl, refl, refl, refl, refl, refl, refl, refl, refl, refl, refl, refl, refl, refl, refl),
  (refl, refl, refl, refl, refl, refl, refl, refl, refl, refl, refl, refl),
  (refl, refl, refl),
)
