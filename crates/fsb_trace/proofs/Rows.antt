-- Traces of runs, laid out clock by clock, and what the definitions say of them: all of it is computed.
use Rattle.std.proofs.Common.{◌≡◌, refl, [], ◌∷◌, Some, None, true, false, replicate, length}
use Rattle.fsb_signal.specs.declared.lines.TheConstants.Lines.{BREQ0, BREQ1, BPRI, LOCK, ADS, AERR, HIT, HITM, DEFER}
use Rattle.fsb_signal.specs.declared.lines.TheConstants.Lines.{RS0, RS1, RS2, TRDY, DBSY, DRDY}
use Rattle.fsb_trace.specs.declared.who.Who.TheVariants.{Symmetric, Priority}
use Rattle.fsb_trace.specs.declared.outcome.Outcome.TheVariants.{Granted, Handed, Retried, Deferred, Replied}
use Rattle.fsb_count.specs.Options.{is_some_and, is_before, is_at, greater_of}
use Rattle.fsb_count.specs.Clocks.{first_where, last_where, any_where, count_where, all_where, nth_where, from_clock}
use Rattle.fsb_count.specs.Clocks.{holds_since}
use Rattle.std.specs.Int.Count.{ones}
use Rattle.fsb_signal.specs.Samples.{line_at}
use Rattle.fsb_signal.specs.Parity.{is_address_odd, is_request_odd}
use Rattle.fsb_encode.specs.Request.{is_lawful_request, are_lawful_fields, high_bit, den_bit, clocks, row_of, pairs_of}
use Rattle.fsb_encode.specs.Decoded.{req_words, kind_of, read_off, is_pair, is_coded_as, if_coded_as, request_of}
use Rattle.fsb_trace.specs.At.{Trace, line_back, response_code_at, responds_at, stalls_at, known_pair, known_pair_at}
use Rattle.fsb_trace.specs.At.{request_at}
use Rattle.fsb_trace.specs.Winner.{bus_request_of, request_line_of, is_same_agent, is_agent, no_requesters}
use Rattle.fsb_trace.specs.Winner.{symmetric_after, then_begun, first_in_order, agent_in_order, asks_in_order}
use Rattle.fsb_trace.specs.Winner.{first_asking, last_if_asking, winner_by, winner_after, requesters_before, winner_at}
use Rattle.fsb_trace.specs.Winner.{last_agent, last_symmetric, begins_at}
use Rattle.fsb_trace.specs.Requests.{is_cancelled, seen_at, requests_of, first_clock_of, is_live, live_count}
use Rattle.fsb_trace.specs.Requests.{live_clock_of, live_number_of, live_request_of, is_reply_kind, is_write_back_kind}
use Rattle.fsb_trace.specs.Requests.{is_upgrade_kind, is_reply, is_write_back, is_upgrade, have_same_id, line_of}
use Rattle.fsb_trace.specs.Snoop.{is_every_second_from, ends_snoop, snoop_end_from, snoop_end_if, start_after_clock}
use Rattle.fsb_trace.specs.Snoop.{start_after_end, snoop_end_of, snoop_start_of, is_snoop_clock_of, is_snoop_clock}
use Rattle.fsb_trace.specs.Snoop.{line_at_snoop_end}
use Rattle.fsb_trace.specs.Outcome.{does_move, response_code_of, is_deferral, outcome_by_kind, response_clock_of}
use Rattle.fsb_trace.specs.Outcome.{live_response_of, told_by, outcome_of, moves_data, is_deferred, settled_by}
use Rattle.fsb_trace.specs.Outcome.{settled_outcome_of, is_settled_deferred}
use Rattle.fsb_trace.specs.Response.{takes, data_clock_of, end_of, is_clear_before, clock_after_snoop, ready_after}
use Rattle.fsb_trace.specs.Response.{ready_clock_of}
use Rattle.fsb_trace.specs.Flight.{is_dropped, has_ended, is_in_flight, in_flight, is_reply_to, is_live_reply_to}
use Rattle.fsb_trace.specs.Flight.{reply_clock_of, reply_number_of, reply_end_of, last_clock_of, is_finished}
use Rattle.fsb_trace.specs.Flight.{is_outstanding, outstanding}
use Rattle.fsb_trace.specs.Deferral.{answers, is_answered, later_of, is_due, due_at, keeps_pending, is_pending}
use Rattle.fsb_trace.specs.Rules.{has_unknown_line, is_request_too_soon, is_code_unlawful, is_queue_full}
use Rattle.fsb_trace.specs.Rules.{is_request_blocked, has_no_winner, is_own_id, is_identified, is_identity_wrong}
use Rattle.fsb_trace.specs.Rules.{is_asked_wrongly, is_some_asked_wrongly, is_lock_alone, is_error_alone}
use Rattle.fsb_trace.specs.Rules.{is_snoop_line_alone, is_result_unfit_for, is_snoop_result_unfit, next_response}
use Rattle.fsb_trace.specs.Rules.{may_answer, is_response_early, has_den, is_code_for, responds_soundly, has_code_at}
use Rattle.fsb_trace.specs.Rules.{is_code_wrong, is_ready_in_time, is_ready_wrongly, is_target_ready_wrong}
use Rattle.fsb_trace.specs.Rules.{is_transferring_of, is_transferring, is_data_wrong, has_unknown_data, awaits_reply}
use Rattle.fsb_trace.specs.Rules.{is_id_taken_by, is_outstanding_of_winner, is_begun_wrongly, is_outstanding_wrong}
use Rattle.fsb_trace.specs.Rules.{has_parity_at, is_address_parity_wrong, is_request_parity_wrong}
use Rattle.fsb_trace.specs.Rules.{is_marked_address_wrong, is_marked_request_wrong, phase_rules, breaks}
use Rattle.fsb_trace.specs.Verdict.{is_broken, least_rule, breaks_a_rule, verdict}
use Rattle.fsb_trace.proofs.LaidOut.{no_marks, clock, idle}

-- a load of one agent, and a store that hits: one request
abbrev pub load_then_store_hit : Trace
load_then_store_hit =
    clock (BREQ0 ∷ []) 0x0 0x0
    ∷ clock (BREQ0 ∷ []) 0x0 0x0
    ∷ clock (BREQ0 ∷ ADS ∷ []) 0x6 0x8
    ∷ clock ([]) 0x2 0x2
    ∷ idle
    ∷ idle
    ∷ idle
    ∷ idle
    ∷ clock (RS0 ∷ RS1 ∷ RS2 ∷ DBSY ∷ DRDY ∷ []) 0x0 0x0
    ∷ clock (DBSY ∷ DRDY ∷ []) 0x0 0x0
    ∷ clock (DBSY ∷ DRDY ∷ []) 0x0 0x0
    ∷ clock (DRDY ∷ []) 0x0 0x0
    ∷ replicate 48 idle

abbrev pub load_then_store_hit-says : Type 0
load_then_store_hit-says =
    (all_where (line_at BREQ0 load_then_store_hit) 60 ≡ 0 ∷ 1 ∷ 2 ∷ [])
    × (winner_at load_then_store_hit 2 ≡ Some (Symmetric 0))
    × (live_clock_of load_then_store_hit 0 ≡ Some 2)
    × (snoop_end_of load_then_store_hit 0 ≡ Some 6)
    × (response_clock_of load_then_store_hit 0 ≡ Some 8)
    × (end_of load_then_store_hit 0 ≡ Some 11)
    × (outcome_of load_then_store_hit 0 ≡ Some Granted)
    × (live_clock_of load_then_store_hit 1 ≡ None)
    × (verdict no_marks load_then_store_hit ≡ None)

-- two agents load different lines: the second request overlaps the first
abbrev pub two_agents_overlap : Trace
two_agents_overlap =
    clock (BREQ0 ∷ BREQ1 ∷ []) 0x0 0x0
    ∷ clock (BREQ0 ∷ BREQ1 ∷ []) 0x0 0x0
    ∷ clock (BREQ0 ∷ BREQ1 ∷ ADS ∷ []) 0x6 0x8
    ∷ clock (BREQ1 ∷ []) 0x2 0x2
    ∷ clock (BREQ1 ∷ []) 0x0 0x0
    ∷ clock (BREQ1 ∷ ADS ∷ []) 0x6 0x10
    ∷ clock ([]) 0x2 0x20002
    ∷ idle
    ∷ clock (RS0 ∷ RS1 ∷ RS2 ∷ DBSY ∷ DRDY ∷ []) 0x0 0x0
    ∷ clock (DBSY ∷ DRDY ∷ []) 0x0 0x0
    ∷ clock (DBSY ∷ DRDY ∷ []) 0x0 0x0
    ∷ clock (DRDY ∷ []) 0x0 0x0
    ∷ clock (RS0 ∷ RS1 ∷ RS2 ∷ DBSY ∷ DRDY ∷ []) 0x0 0x0
    ∷ clock (DBSY ∷ DRDY ∷ []) 0x0 0x0
    ∷ clock (DBSY ∷ DRDY ∷ []) 0x0 0x0
    ∷ clock (DRDY ∷ []) 0x0 0x0
    ∷ replicate 44 idle

abbrev pub two_agents_overlap-says : Type 0
two_agents_overlap-says =
    (winner_at two_agents_overlap 2 ≡ Some (Symmetric 0))
    × (winner_at two_agents_overlap 5 ≡ Some (Symmetric 1))
    × (live_clock_of two_agents_overlap 0 ≡ Some 2)
    × (snoop_end_of two_agents_overlap 0 ≡ Some 6)
    × (response_clock_of two_agents_overlap 0 ≡ Some 8)
    × (end_of two_agents_overlap 0 ≡ Some 11)
    × (outcome_of two_agents_overlap 0 ≡ Some Granted)
    × (live_clock_of two_agents_overlap 1 ≡ Some 5)
    × (snoop_end_of two_agents_overlap 1 ≡ Some 9)
    × (response_clock_of two_agents_overlap 1 ≡ Some 12)
    × (end_of two_agents_overlap 1 ≡ Some 15)
    × (outcome_of two_agents_overlap 1 ≡ Some Granted)
    × (live_clock_of two_agents_overlap 2 ≡ None)
    × (verdict no_marks two_agents_overlap ≡ None)

-- two agents store to one line: the second is handed the line by the first, whose bytes have not come
abbrev pub store_handed_over_before_arrival : Trace
store_handed_over_before_arrival =
    clock (BREQ0 ∷ BREQ1 ∷ []) 0x0 0x0
    ∷ clock (BREQ0 ∷ BREQ1 ∷ []) 0x0 0x0
    ∷ clock (BREQ0 ∷ BREQ1 ∷ ADS ∷ []) 0x2 0x8
    ∷ clock (BREQ1 ∷ []) 0x2 0x2
    ∷ clock (BREQ1 ∷ []) 0x0 0x0
    ∷ clock (BREQ1 ∷ ADS ∷ []) 0x2 0x8
    ∷ clock ([]) 0x2 0x20002
    ∷ idle
    ∷ clock (RS0 ∷ RS1 ∷ RS2 ∷ DBSY ∷ DRDY ∷ []) 0x0 0x0
    ∷ clock (HITM ∷ DBSY ∷ DRDY ∷ []) 0x0 0x0
    ∷ clock (DBSY ∷ DRDY ∷ []) 0x0 0x0
    ∷ clock (DRDY ∷ []) 0x0 0x0
    ∷ clock (TRDY ∷ []) 0x0 0x0
    ∷ idle
    ∷ clock (RS1 ∷ RS2 ∷ DBSY ∷ DRDY ∷ []) 0x0 0x0
    ∷ clock (DBSY ∷ DRDY ∷ []) 0x0 0x0
    ∷ clock (DBSY ∷ DRDY ∷ []) 0x0 0x0
    ∷ clock (DRDY ∷ []) 0x0 0x0
    ∷ replicate 42 idle

abbrev pub store_handed_over_before_arrival-says : Type 0
store_handed_over_before_arrival-says =
    (live_clock_of store_handed_over_before_arrival 0 ≡ Some 2)
    × (snoop_end_of store_handed_over_before_arrival 0 ≡ Some 6)
    × (response_clock_of store_handed_over_before_arrival 0 ≡ Some 8)
    × (end_of store_handed_over_before_arrival 0 ≡ Some 11)
    × (outcome_of store_handed_over_before_arrival 0 ≡ Some Granted)
    × (all_where (line_at HITM store_handed_over_before_arrival) 60 ≡ 9 ∷ [])
    × (ready_clock_of store_handed_over_before_arrival 1 ≡ Some 12)
    × (live_clock_of store_handed_over_before_arrival 1 ≡ Some 5)
    × (snoop_end_of store_handed_over_before_arrival 1 ≡ Some 9)
    × (response_clock_of store_handed_over_before_arrival 1 ≡ Some 14)
    × (end_of store_handed_over_before_arrival 1 ≡ Some 17)
    × (outcome_of store_handed_over_before_arrival 1 ≡ Some Handed)
    × (data_clock_of store_handed_over_before_arrival 1 0 ≡ Some 14)
    × (live_clock_of store_handed_over_before_arrival 2 ≡ None)
    × (verdict no_marks store_handed_over_before_arrival ≡ None)

-- a snoop that is stalled twice
abbrev pub stalled_snoop : Trace
stalled_snoop =
    clock (BREQ0 ∷ []) 0x0 0x0
    ∷ clock (BREQ0 ∷ []) 0x0 0x0
    ∷ clock (BREQ0 ∷ ADS ∷ []) 0x6 0x8
    ∷ clock ([]) 0x2 0x2
    ∷ idle
    ∷ idle
    ∷ clock (HIT ∷ HITM ∷ []) 0x0 0x0
    ∷ idle
    ∷ clock (HIT ∷ HITM ∷ []) 0x0 0x0
    ∷ idle
    ∷ idle
    ∷ idle
    ∷ clock (RS0 ∷ RS1 ∷ RS2 ∷ DBSY ∷ DRDY ∷ []) 0x0 0x0
    ∷ clock (DBSY ∷ DRDY ∷ []) 0x0 0x0
    ∷ clock (DBSY ∷ DRDY ∷ []) 0x0 0x0
    ∷ clock (DRDY ∷ []) 0x0 0x0
    ∷ replicate 44 idle

abbrev pub stalled_snoop-says : Type 0
stalled_snoop-says =
    (snoop_start_of stalled_snoop 0 ≡ Some 6)
    × (all_where (line_at HITM stalled_snoop) 60 ≡ 6 ∷ 8 ∷ [])
    × (live_clock_of stalled_snoop 0 ≡ Some 2)
    × (snoop_end_of stalled_snoop 0 ≡ Some 10)
    × (response_clock_of stalled_snoop 0 ≡ Some 12)
    × (end_of stalled_snoop 0 ≡ Some 15)
    × (outcome_of stalled_snoop 0 ≡ Some Granted)
    × (live_clock_of stalled_snoop 1 ≡ None)
    × (verdict no_marks stalled_snoop ≡ None)

-- a request that is cancelled, and comes again
abbrev pub cancelled_by_address_error : Trace
cancelled_by_address_error =
    clock (BREQ0 ∷ []) 0x0 0x0
    ∷ clock (BREQ0 ∷ []) 0x0 0x0
    ∷ clock (BREQ0 ∷ ADS ∷ []) 0x6 0x8
    ∷ clock ([]) 0x2 0x2
    ∷ idle
    ∷ clock (AERR ∷ []) 0x0 0x0
    ∷ clock (BREQ0 ∷ []) 0x0 0x0
    ∷ clock (BREQ0 ∷ []) 0x0 0x0
    ∷ clock (BREQ0 ∷ ADS ∷ []) 0x6 0x8
    ∷ clock ([]) 0x2 0x2
    ∷ idle
    ∷ idle
    ∷ idle
    ∷ idle
    ∷ clock (RS0 ∷ RS1 ∷ RS2 ∷ DBSY ∷ DRDY ∷ []) 0x0 0x0
    ∷ clock (DBSY ∷ DRDY ∷ []) 0x0 0x0
    ∷ clock (DBSY ∷ DRDY ∷ []) 0x0 0x0
    ∷ clock (DRDY ∷ []) 0x0 0x0
    ∷ replicate 42 idle

abbrev pub cancelled_by_address_error-says : Type 0
cancelled_by_address_error-says =
    (first_clock_of cancelled_by_address_error 0 ≡ Some 2)
    × (is_cancelled cancelled_by_address_error 2 ≡ true)
    × (first_clock_of cancelled_by_address_error 1 ≡ Some 8)
    × (in_flight cancelled_by_address_error 5 ≡ 2 ∷ [])
    × (in_flight cancelled_by_address_error 6 ≡ [])
    × (live_clock_of cancelled_by_address_error 0 ≡ Some 8)
    × (snoop_end_of cancelled_by_address_error 0 ≡ Some 12)
    × (response_clock_of cancelled_by_address_error 0 ≡ Some 14)
    × (end_of cancelled_by_address_error 0 ≡ Some 17)
    × (outcome_of cancelled_by_address_error 0 ≡ Some Granted)
    × (live_clock_of cancelled_by_address_error 1 ≡ None)
    × (verdict no_marks cancelled_by_address_error ≡ None)

-- a load that is deferred and replied to, and a store of another agent that waits for it
abbrev pub deferred_and_replied : Trace
deferred_and_replied =
    clock (BREQ0 ∷ BREQ1 ∷ []) 0x0 0x0
    ∷ clock (BREQ0 ∷ BREQ1 ∷ []) 0x0 0x0
    ∷ clock (BREQ0 ∷ BREQ1 ∷ ADS ∷ []) 0x6 0x200
    ∷ clock (BREQ1 ∷ []) 0x2 0x2
    ∷ clock (BREQ1 ∷ []) 0x0 0x0
    ∷ clock (BREQ1 ∷ ADS ∷ []) 0x2 0x200
    ∷ clock (DEFER ∷ []) 0x2 0x20002
    ∷ idle
    ∷ clock (RS1 ∷ []) 0x0 0x0
    ∷ clock (DEFER ∷ []) 0x0 0x0
    ∷ idle
    ∷ clock (RS0 ∷ []) 0x0 0x0
    ∷ clock (BREQ1 ∷ []) 0x0 0x0
    ∷ clock (BREQ1 ∷ []) 0x0 0x0
    ∷ clock (BREQ1 ∷ ADS ∷ []) 0x2 0x200
    ∷ clock ([]) 0x2 0x20002
    ∷ idle
    ∷ idle
    ∷ clock (DEFER ∷ []) 0x0 0x0
    ∷ clock (BPRI ∷ []) 0x0 0x0
    ∷ clock (BPRI ∷ RS0 ∷ []) 0x0 0x0
    ∷ clock (BREQ1 ∷ BPRI ∷ ADS ∷ []) 0x0 0x0
    ∷ clock (BREQ1 ∷ []) 0x0 0x0
    ∷ clock (BREQ1 ∷ []) 0x0 0x0
    ∷ clock (BREQ1 ∷ ADS ∷ []) 0x2 0x200
    ∷ clock ([]) 0x2 0x20002
    ∷ idle
    ∷ clock (RS0 ∷ RS1 ∷ RS2 ∷ DBSY ∷ DRDY ∷ []) 0x0 0x0
    ∷ clock (HIT ∷ DBSY ∷ DRDY ∷ []) 0x0 0x0
    ∷ clock (DBSY ∷ DRDY ∷ []) 0x0 0x0
    ∷ clock (DRDY ∷ []) 0x0 0x0
    ∷ clock (RS0 ∷ RS1 ∷ RS2 ∷ DBSY ∷ DRDY ∷ []) 0x0 0x0
    ∷ clock (DBSY ∷ DRDY ∷ []) 0x0 0x0
    ∷ clock (DBSY ∷ DRDY ∷ []) 0x0 0x0
    ∷ clock (DRDY ∷ []) 0x0 0x0
    ∷ replicate 25 idle

abbrev pub deferred_and_replied-says : Type 0
deferred_and_replied-says =
    (winner_at deferred_and_replied 2 ≡ Some (Symmetric 0))
    × (live_clock_of deferred_and_replied 0 ≡ Some 2)
    × (snoop_end_of deferred_and_replied 0 ≡ Some 6)
    × (response_clock_of deferred_and_replied 0 ≡ Some 8)
    × (end_of deferred_and_replied 0 ≡ Some 8)
    × (outcome_of deferred_and_replied 0 ≡ Some Deferred)
    × (live_clock_of deferred_and_replied 1 ≡ Some 5)
    × (snoop_end_of deferred_and_replied 1 ≡ Some 9)
    × (response_clock_of deferred_and_replied 1 ≡ Some 11)
    × (end_of deferred_and_replied 1 ≡ Some 11)
    × (outcome_of deferred_and_replied 1 ≡ Some Retried)
    × (live_clock_of deferred_and_replied 2 ≡ Some 14)
    × (snoop_end_of deferred_and_replied 2 ≡ Some 18)
    × (response_clock_of deferred_and_replied 2 ≡ Some 20)
    × (end_of deferred_and_replied 2 ≡ Some 20)
    × (outcome_of deferred_and_replied 2 ≡ Some Retried)
    × (all_where (line_at BPRI deferred_and_replied) 60 ≡ 19 ∷ 20 ∷ 21 ∷ [])
    × (winner_at deferred_and_replied 21 ≡ Some Priority)
    × (live_clock_of deferred_and_replied 3 ≡ Some 21)
    × (snoop_end_of deferred_and_replied 3 ≡ Some 25)
    × (response_clock_of deferred_and_replied 3 ≡ Some 27)
    × (end_of deferred_and_replied 3 ≡ Some 30)
    × (outcome_of deferred_and_replied 3 ≡ Some Replied)
    × (winner_at deferred_and_replied 24 ≡ Some (Symmetric 1))
    × (all_where (line_at HIT deferred_and_replied) 60 ≡ 28 ∷ [])
    × (live_clock_of deferred_and_replied 4 ≡ Some 24)
    × (snoop_end_of deferred_and_replied 4 ≡ Some 28)
    × (response_clock_of deferred_and_replied 4 ≡ Some 31)
    × (end_of deferred_and_replied 4 ≡ Some 34)
    × (outcome_of deferred_and_replied 4 ≡ Some Granted)
    × (reply_clock_of deferred_and_replied 0 ≡ Some 21)
    × (outstanding deferred_and_replied 30 ≡ 2 ∷ 24 ∷ [])
    × (outstanding deferred_and_replied 31 ≡ 24 ∷ [])
    × (settled_outcome_of deferred_and_replied (12 ∷ 1 ∷ 1 ∷ 0 ∷ 0 ∷ []) 0 ≡ Some Deferred)
    × (settled_outcome_of deferred_and_replied (12 ∷ 1 ∷ 1 ∷ 0 ∷ 0 ∷ []) 2 ≡ Some Retried)
    × (settled_outcome_of deferred_and_replied (12 ∷ 1 ∷ 1 ∷ 0 ∷ 0 ∷ []) 3 ≡ Some Replied)
    × (due_at deferred_and_replied (12 ∷ 1 ∷ 1 ∷ 0 ∷ 0 ∷ []) 18 ≡ None)
    × (due_at deferred_and_replied (12 ∷ 1 ∷ 1 ∷ 0 ∷ 0 ∷ []) 19 ≡ Some 0)
    × (due_at deferred_and_replied (12 ∷ 1 ∷ 1 ∷ 0 ∷ 0 ∷ []) 22 ≡ None)
    × (is_pending deferred_and_replied (12 ∷ 1 ∷ 1 ∷ 0 ∷ 0 ∷ []) 0x80 6 ≡ false)
    × (is_pending deferred_and_replied (12 ∷ 1 ∷ 1 ∷ 0 ∷ 0 ∷ []) 0x80 7 ≡ true)
    × (is_pending deferred_and_replied (12 ∷ 1 ∷ 1 ∷ 0 ∷ 0 ∷ []) 0x80 25 ≡ true)
    × (is_pending deferred_and_replied (12 ∷ 1 ∷ 1 ∷ 0 ∷ 0 ∷ []) 0x80 26 ≡ false)
    × (live_clock_of deferred_and_replied 5 ≡ None)
    × (verdict no_marks deferred_and_replied ≡ None)

-- two agents increment a byte under LOCK#
abbrev pub locked_increments : Trace
locked_increments =
    clock (BREQ0 ∷ BREQ1 ∷ []) 0x0 0x0
    ∷ clock (BREQ0 ∷ BREQ1 ∷ []) 0x0 0x0
    ∷ clock (BREQ0 ∷ BREQ1 ∷ LOCK ∷ ADS ∷ []) 0x2 0x8
    ∷ clock (BREQ1 ∷ LOCK ∷ []) 0x2 0x0
    ∷ clock (BREQ1 ∷ LOCK ∷ []) 0x0 0x0
    ∷ clock (BREQ1 ∷ LOCK ∷ []) 0x0 0x0
    ∷ clock (BREQ1 ∷ LOCK ∷ []) 0x0 0x0
    ∷ clock (BREQ1 ∷ LOCK ∷ []) 0x0 0x0
    ∷ clock (BREQ1 ∷ LOCK ∷ RS0 ∷ RS1 ∷ RS2 ∷ DBSY ∷ DRDY ∷ []) 0x0 0x0
    ∷ clock (BREQ1 ∷ LOCK ∷ DBSY ∷ DRDY ∷ []) 0x0 0x0
    ∷ clock (BREQ1 ∷ LOCK ∷ DBSY ∷ DRDY ∷ []) 0x0 0x0
    ∷ clock (BREQ1 ∷ LOCK ∷ DRDY ∷ []) 0x0 0x0
    ∷ clock (BREQ1 ∷ []) 0x0 0x0
    ∷ clock (BREQ1 ∷ []) 0x0 0x0
    ∷ clock (BREQ1 ∷ LOCK ∷ ADS ∷ []) 0x2 0x8
    ∷ clock (LOCK ∷ []) 0x2 0x20000
    ∷ clock (LOCK ∷ []) 0x0 0x0
    ∷ clock (LOCK ∷ []) 0x0 0x0
    ∷ clock (LOCK ∷ HITM ∷ []) 0x0 0x0
    ∷ clock (LOCK ∷ []) 0x0 0x0
    ∷ clock (LOCK ∷ TRDY ∷ []) 0x0 0x0
    ∷ clock (LOCK ∷ []) 0x0 0x0
    ∷ clock (LOCK ∷ RS1 ∷ RS2 ∷ DBSY ∷ DRDY ∷ []) 0x0 0x0
    ∷ clock (LOCK ∷ DBSY ∷ DRDY ∷ []) 0x0 0x0
    ∷ clock (LOCK ∷ DBSY ∷ DRDY ∷ []) 0x0 0x0
    ∷ clock (LOCK ∷ DRDY ∷ []) 0x0 0x0
    ∷ replicate 34 idle

abbrev pub locked_increments-says : Type 0
locked_increments-says =
    (all_where (line_at LOCK locked_increments) 60 ≡ 2 ∷ 3 ∷ 4 ∷ 5 ∷ 6 ∷ 7 ∷ 8 ∷ 9 ∷ 10 ∷ 11 ∷ 14 ∷ 15 ∷ 16 ∷ 17
    ∷ 18 ∷ 19 ∷ 20 ∷ 21 ∷ 22 ∷ 23 ∷ 24 ∷ 25 ∷ [])
    × (live_clock_of locked_increments 0 ≡ Some 2)
    × (snoop_end_of locked_increments 0 ≡ Some 6)
    × (response_clock_of locked_increments 0 ≡ Some 8)
    × (end_of locked_increments 0 ≡ Some 11)
    × (outcome_of locked_increments 0 ≡ Some Granted)
    × (all_where (line_at HITM locked_increments) 60 ≡ 18 ∷ [])
    × (ready_clock_of locked_increments 1 ≡ Some 20)
    × (winner_at locked_increments 14 ≡ Some (Symmetric 1))
    × (live_clock_of locked_increments 1 ≡ Some 14)
    × (snoop_end_of locked_increments 1 ≡ Some 18)
    × (response_clock_of locked_increments 1 ≡ Some 22)
    × (end_of locked_increments 1 ≡ Some 25)
    × (outcome_of locked_increments 1 ≡ Some Handed)
    × (live_clock_of locked_increments 2 ≡ None)
    × (verdict no_marks locked_increments ≡ None)

-- a store, a read of the stored line by another agent, and a read that has waited for it
abbrev pub write_back_held_off : Trace
write_back_held_off =
    clock (BREQ0 ∷ []) 0x0 0x0
    ∷ clock (BREQ0 ∷ []) 0x0 0x0
    ∷ clock (BREQ0 ∷ ADS ∷ []) 0x2 0x8
    ∷ clock ([]) 0x2 0x2
    ∷ idle
    ∷ idle
    ∷ idle
    ∷ idle
    ∷ clock (RS0 ∷ RS1 ∷ RS2 ∷ DBSY ∷ DRDY ∷ []) 0x0 0x0
    ∷ clock (DBSY ∷ DRDY ∷ []) 0x0 0x0
    ∷ clock (DBSY ∷ DRDY ∷ []) 0x0 0x0
    ∷ clock (BREQ1 ∷ DRDY ∷ []) 0x0 0x0
    ∷ clock (BREQ0 ∷ BREQ1 ∷ []) 0x0 0x0
    ∷ clock (BREQ0 ∷ BREQ1 ∷ ADS ∷ []) 0x6 0x8
    ∷ clock (BREQ0 ∷ []) 0x2 0x20002
    ∷ clock (BREQ0 ∷ []) 0x0 0x0
    ∷ clock (BREQ0 ∷ []) 0x0 0x0
    ∷ clock (BREQ0 ∷ HITM ∷ []) 0x0 0x0
    ∷ clock (BREQ0 ∷ ADS ∷ []) 0x6 0x10
    ∷ clock (TRDY ∷ []) 0x2 0x2
    ∷ idle
    ∷ clock (RS1 ∷ RS2 ∷ DBSY ∷ DRDY ∷ []) 0x0 0x0
    ∷ clock (DBSY ∷ DRDY ∷ []) 0x0 0x0
    ∷ clock (DBSY ∷ DRDY ∷ []) 0x0 0x0
    ∷ clock (DRDY ∷ []) 0x0 0x0
    ∷ clock (RS0 ∷ RS1 ∷ RS2 ∷ DBSY ∷ DRDY ∷ []) 0x0 0x0
    ∷ clock (DBSY ∷ DRDY ∷ []) 0x0 0x0
    ∷ clock (DBSY ∷ DRDY ∷ []) 0x0 0x0
    ∷ clock (DRDY ∷ []) 0x0 0x0
    ∷ replicate 31 idle

abbrev pub write_back_held_off-says : Type 0
write_back_held_off-says =
    (winner_at write_back_held_off 13 ≡ Some (Symmetric 1))
    × (all_where (line_at HITM write_back_held_off) 60 ≡ 17 ∷ [])
    × (ready_clock_of write_back_held_off 1 ≡ Some 19)
    × (live_clock_of write_back_held_off 1 ≡ Some 13)
    × (snoop_end_of write_back_held_off 1 ≡ Some 17)
    × (response_clock_of write_back_held_off 1 ≡ Some 21)
    × (end_of write_back_held_off 1 ≡ Some 24)
    × (outcome_of write_back_held_off 1 ≡ Some Handed)
    × (winner_at write_back_held_off 18 ≡ Some (Symmetric 0))
    × (live_clock_of write_back_held_off 2 ≡ Some 18)
    × (snoop_end_of write_back_held_off 2 ≡ Some 22)
    × (response_clock_of write_back_held_off 2 ≡ Some 25)
    × (end_of write_back_held_off 2 ≡ Some 28)
    × (outcome_of write_back_held_off 2 ≡ Some Granted)
    × (live_clock_of write_back_held_off 3 ≡ None)
    × (verdict no_marks write_back_held_off ≡ None)

-- a second request two clocks after the first; its own pair is not complete
abbrev pub request_spacing_broken : Trace
request_spacing_broken =
    clock (BREQ0 ∷ []) 0x0 0x0
    ∷ clock (BREQ0 ∷ []) 0x0 0x0
    ∷ clock (BREQ0 ∷ ADS ∷ []) 0x6 0x8
    ∷ clock ([]) 0x2 0x2
    ∷ clock (BREQ0 ∷ ADS ∷ []) 0x0 0x0
    ∷ replicate 0 idle

abbrev pub request_spacing_broken-says : Type 0
request_spacing_broken-says =
    (verdict no_marks request_spacing_broken ≡ Some (4, 2))
    × (length request_spacing_broken ≡ 5)

-- ADS# and AERR# at clock 1, which breaks the rules 2, 6 and 10
abbrev pub least_rule_named : Trace
least_rule_named =
    idle
    ∷ clock (ADS ∷ AERR ∷ []) 0x0 0x0
    ∷ replicate 0 idle

abbrev pub least_rule_named-says : Type 0
least_rule_named-says =
    (verdict no_marks least_rule_named ≡ Some (1, 2))
    × (length least_rule_named ≡ 2)

-- nine requests of two agents, and no response: the ninth is one too many
abbrev pub queue_depth_broken : Trace
queue_depth_broken =
    clock (BREQ0 ∷ BREQ1 ∷ []) 0x0 0x0
    ∷ clock (BREQ0 ∷ BREQ1 ∷ []) 0x0 0x0
    ∷ clock (BREQ0 ∷ BREQ1 ∷ ADS ∷ []) 0x6 0x8
    ∷ clock (BREQ1 ∷ []) 0x2 0x2
    ∷ clock (BREQ0 ∷ BREQ1 ∷ []) 0x0 0x0
    ∷ clock (BREQ0 ∷ BREQ1 ∷ ADS ∷ []) 0x6 0xc
    ∷ clock (BREQ0 ∷ []) 0x2 0x20002
    ∷ clock (BREQ0 ∷ BREQ1 ∷ []) 0x0 0x0
    ∷ clock (BREQ0 ∷ BREQ1 ∷ ADS ∷ []) 0x6 0x10
    ∷ clock (BREQ1 ∷ []) 0x2 0x2002
    ∷ clock (BREQ0 ∷ BREQ1 ∷ []) 0x0 0x0
    ∷ clock (BREQ0 ∷ BREQ1 ∷ ADS ∷ []) 0x6 0x14
    ∷ clock (BREQ0 ∷ []) 0x2 0x22002
    ∷ clock (BREQ0 ∷ BREQ1 ∷ []) 0x0 0x0
    ∷ clock (BREQ0 ∷ BREQ1 ∷ ADS ∷ []) 0x6 0x18
    ∷ clock (BREQ1 ∷ []) 0x2 0x4002
    ∷ clock (BREQ0 ∷ BREQ1 ∷ []) 0x0 0x0
    ∷ clock (BREQ0 ∷ BREQ1 ∷ ADS ∷ []) 0x6 0x1c
    ∷ clock (BREQ0 ∷ []) 0x2 0x24002
    ∷ clock (BREQ0 ∷ BREQ1 ∷ []) 0x0 0x0
    ∷ clock (BREQ0 ∷ BREQ1 ∷ ADS ∷ []) 0x6 0x20
    ∷ clock (BREQ1 ∷ []) 0x2 0x6002
    ∷ clock (BREQ0 ∷ BREQ1 ∷ []) 0x0 0x0
    ∷ clock (BREQ0 ∷ BREQ1 ∷ ADS ∷ []) 0x6 0x24
    ∷ clock (BREQ0 ∷ []) 0x2 0x26002
    ∷ clock (BREQ0 ∷ []) 0x0 0x0
    ∷ clock (BREQ0 ∷ ADS ∷ []) 0x6 0x28
    ∷ replicate 0 idle

abbrev pub queue_depth_broken-says : Type 0
queue_depth_broken-says =
    (verdict no_marks queue_depth_broken ≡ Some (26, 4))
    × (length queue_depth_broken ≡ 27)

-- all of the above
pub rows_hold :
    load_then_store_hit-says
    × two_agents_overlap-says
    × store_handed_over_before_arrival-says
    × stalled_snoop-says
    × cancelled_by_address_error-says
    × deferred_and_replied-says
    × locked_increments-says
    × write_back_held_off-says
    × request_spacing_broken-says
    × least_rule_named-says
    × queue_depth_broken-says
unfolding is_some_and is_before is_at greater_of first_where last_where any_where count_where all_where nth_where
    from_clock holds_since line_at is_lawful_request are_lawful_fields high_bit den_bit clocks row_of pairs_of
    req_words kind_of read_off is_pair is_coded_as if_coded_as request_of line_back response_code_at responds_at
    stalls_at known_pair known_pair_at request_at bus_request_of request_line_of is_same_agent is_agent no_requesters
    symmetric_after then_begun first_in_order agent_in_order asks_in_order first_asking last_if_asking winner_by
    winner_after
    requesters_before winner_at last_agent last_symmetric begins_at is_cancelled seen_at requests_of
    first_clock_of is_live
    live_count live_clock_of live_number_of live_request_of is_reply_kind is_write_back_kind
    is_upgrade_kind is_reply is_write_back is_upgrade
    have_same_id line_of is_every_second_from ends_snoop snoop_end_from snoop_end_if start_after_clock start_after_end
    snoop_end_of snoop_start_of is_snoop_clock_of is_snoop_clock line_at_snoop_end does_move response_code_of
    is_deferral outcome_by_kind response_clock_of live_response_of told_by outcome_of moves_data is_deferred settled_by
    settled_outcome_of is_settled_deferred takes data_clock_of end_of is_clear_before clock_after_snoop ready_after
    ready_clock_of is_dropped has_ended is_in_flight in_flight is_reply_to is_live_reply_to reply_clock_of
    reply_number_of reply_end_of last_clock_of is_finished is_outstanding outstanding answers is_answered later_of
    is_due due_at keeps_pending is_pending has_unknown_line is_request_too_soon is_code_unlawful is_queue_full
    is_request_blocked has_no_winner is_own_id is_identified is_identity_wrong is_asked_wrongly is_some_asked_wrongly
    is_lock_alone is_error_alone is_snoop_line_alone is_result_unfit_for is_snoop_result_unfit next_response
    may_answer is_response_early has_den is_code_for responds_soundly has_code_at is_code_wrong is_ready_in_time
    is_ready_wrongly is_target_ready_wrong is_transferring_of is_transferring is_data_wrong has_unknown_data
    awaits_reply is_id_taken_by is_outstanding_of_winner is_begun_wrongly is_outstanding_wrong has_parity_at
    is_address_parity_wrong is_request_parity_wrong is_marked_address_wrong is_marked_request_wrong is_address_odd
    is_request_odd ones phase_rules breaks
    is_broken least_rule breaks_a_rule verdict
rows_hold = (
  (refl, refl, refl, refl, refl, refl, refl, refl, refl),
  (refl, refl, refl, refl, refl, refl, refl, refl, refl, refl, refl, refl, refl, refl),
  (refl, refl, refl, refl, refl, refl, refl, refl, refl, refl, refl, refl, refl, refl, refl),
  (refl, refl, refl, refl, refl, refl, refl, refl, refl),
  (refl, refl, refl, refl, refl, refl, refl, refl, refl, refl, refl, refl),
  (
    refl,
    refl,
    refl,
    refl,
    refl,
    refl,
    refl,
    refl,
    refl,
    refl,
    refl,
    refl,
    refl,
    refl,
    refl,
    refl,
    refl,
    refl,
    refl,
    refl,
    refl,
    refl,
    refl,
    refl,
    refl,
    refl,
    refl,
    refl,
    refl,
    refl,
    refl,
    refl,
    refl,
    refl,
    refl,
    refl,
    refl,
    refl,
    refl,
    refl,
    refl,
    refl,
    refl,
    refl,
    refl,
  ),
  (refl, refl, refl, refl, refl, refl, refl, refl, refl, refl, refl, refl, refl, refl, refl, refl),
  (refl, refl, refl, refl, refl, refl, refl, refl, refl, refl, refl, refl, refl, refl, refl, refl),
  (refl, refl),
  (refl, refl),
  (refl, refl),
)
