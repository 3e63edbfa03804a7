-- All that the definitions of a run compute with, named once: a row that says `unfolding opened` computes with it.
use Rattle.std.proofs.Common.{Bool, true}
use Rattle.std.specs.Int.Count.{ones}
use Rattle.fsb_count.specs.Clocks.{first_where, last_where, any_where, each_where, count_where, all_where, nth_where}
use Rattle.fsb_count.specs.Clocks.{from_clock, holds_since}
use Rattle.fsb_count.specs.Options.{is_some_and, is_before, is_at, greater_of}
use Rattle.fsb_signal.specs.Samples.{line_at}
use Rattle.fsb_encode.specs.Burst.{burst_order}
use Rattle.fsb_encode.specs.Decoded.{req_words, is_code, kind_of, read_off, is_pair, is_coded_as, if_coded_as}
use Rattle.fsb_encode.specs.Decoded.{request_of, decoded}
use Rattle.fsb_encode.specs.Request.{are_lawful_fields, is_lawful_request, high_bit, den_bit, clocks, row_of, pairs_of}
use Rattle.fsb_access.specs.ByteMemory.{bytes_at, put_bytes, put_value}
use Rattle.fsb_trace.specs.At.{line_back, response_code_at, responds_at, stalls_at, known_pair, known_pair_at}
use Rattle.fsb_trace.specs.At.{request_at}
use Rattle.fsb_trace.specs.Deferral.{answers, is_answered, later_of, is_due, due_at, keeps_pending, is_pending}
use Rattle.fsb_trace.specs.Flight.{is_dropped, has_ended, is_in_flight, in_flight, is_reply_to, is_live_reply_to}
use Rattle.fsb_trace.specs.Flight.{reply_clock_of, reply_number_of, reply_end_of, last_clock_of, is_finished}
use Rattle.fsb_trace.specs.Flight.{is_outstanding, outstanding}
use Rattle.fsb_trace.specs.Outcome.{does_move, does_take, response_code_of, is_deferral, outcome_by_kind}
use Rattle.fsb_trace.specs.Outcome.{response_clock_of, live_response_of, told_by, outcome_of, moves_data, is_deferred}
use Rattle.fsb_trace.specs.Outcome.{settled_by, settled_outcome_of, is_settled_deferred}
use Rattle.fsb_trace.specs.Requests.{is_cancelled, seen_at, requests_of, first_clock_of, is_live, live_count}
use Rattle.fsb_trace.specs.Requests.{live_clock_of, live_number_of, live_request_of, is_reply_kind, is_write_back_kind}
use Rattle.fsb_trace.specs.Requests.{is_upgrade_kind, is_reply, is_write_back, is_upgrade, have_same_id, line_of}
use Rattle.fsb_trace.specs.Response.{takes, data_clock_of, end_of, is_clear_before, clock_after_snoop, ready_after}
use Rattle.fsb_trace.specs.Response.{two_after_snoop, answer_from, ready_clock_of}
use Rattle.fsb_trace.specs.Snoop.{is_every_second_from, ends_snoop, snoop_end_from, snoop_end_if, start_after_clock}
use Rattle.fsb_trace.specs.Snoop.{start_after_end, snoop_end_of, snoop_start_of, is_snoop_clock_of, is_snoop_clock}
use Rattle.fsb_trace.specs.Snoop.{line_at_snoop_end}
use Rattle.fsb_trace.specs.Timing.{is_stall_from, is_ready_from, is_response_from, chunk_from, is_busy_from}
use Rattle.fsb_trace.specs.Winner.{bus_request_of, request_line_of, is_same_agent, is_agent, no_requesters}
use Rattle.fsb_trace.specs.Winner.{symmetric_after, then_begun, first_in_order, agent_in_order, asks_in_order}
use Rattle.fsb_trace.specs.Winner.{first_asking, last_if_asking, winner_by, winner_after, requesters_before, winner_at}
use Rattle.fsb_trace.specs.Winner.{last_agent, last_symmetric, begins_at}
use Rattle.fsb_timely.specs.Grants.{begun_at, snooped_at, ended_requests, is_end_at, grant_at, set_of, is_rival}
use Rattle.fsb_timely.specs.Grants.{is_owning, is_claim_of, is_claim_of_other, is_granted, is_evicted, is_snooped}
use Rattle.fsb_timely.specs.Grants.{is_written_back, is_taken_away, is_lost, holds_line, latest_grant, is_ended}
use Rattle.fsb_timely.specs.Grants.{has_arrived, is_named_by_other, is_sole_grant, is_exclusive, line_granted_at}
use Rattle.fsb_timely.specs.Grants.{lines_granted}
use Rattle.fsb_timely.specs.Scripts.{is_idle, is_locked, idle_count, is_load, items_of, is_done_by, is_done_at}
use Rattle.fsb_timely.specs.Scripts.{completes_at, is_logged, is_logged_at, is_to_do, next_number, next_item, last_done}
use Rattle.fsb_timely.specs.Scripts.{idle_clocks, idle_start, number_after, is_idling, plain_items, window_from}
use Rattle.fsb_timely.specs.Scripts.{window_at, window, first_chunk, locked_need, plain_need, needs_after, needs_of}
use Rattle.fsb_timely.specs.Scripts.{needs_from}
use Rattle.fsb_timely.specs.Hits.{is_met, is_served, is_hit, is_store_on, is_counted, is_stored_since, is_dirty}
use Rattle.fsb_timely.specs.Hits.{line_state_of}
use Rattle.fsb_timely.specs.Wants.{outstanding_at, unsnooped_at, owed, is_asked_for, is_same_set, is_set_taken}
use Rattle.fsb_timely.specs.Wants.{is_missing, least_of, victim_of, id_of, is_id_used, free_id, may_upgrade}
use Rattle.fsb_timely.specs.Wants.{kind_needed, request_of_kind, write_back_of, want_for, want_of, is_open_to_other}
use Rattle.fsb_timely.specs.Wants.{is_held_back}
use Rattle.fsb_timely.specs.Moments.{agent_at, claim_at, choice_at, number_of_turn, is_in_window, effective_choice}
use Rattle.fsb_timely.specs.Moments.{number_snooped_at, is_answered_by, served_number, live_claim_of, is_got}
use Rattle.fsb_timely.specs.Moments.{is_upgraded, makes_grant, wins_race, gives_line, is_owner_request, is_shared_at}
use Rattle.fsb_timely.specs.Moments.{grant_to, grant_for, turns_in, grant_of, snoop_end_with, snoop_end_for}
use Rattle.fsb_timely.specs.Moments.{snoop_end_if_begun, snoop_at, cancelled_at, responded_at, retried_at}
use Rattle.fsb_timely.specs.Moments.{requests_ending_at, owing_for, begun_with, owing_at, is_snoop_of, is_snooped_in}
use Rattle.fsb_timely.specs.Moments.{is_unsnooped, moment_at}
use Rattle.fsb_timely.specs.Runs.{requests_below, entries_to, run_to, moments_below, past_of, past_to}
use Rattle.fsb_timely.specs.Starts.{reply_to, due_number, would_begin, is_kept_back, is_spaced, has_room}
use Rattle.fsb_timely.specs.Starts.{has_free_winner, may_begin, request_begun, no_pair, request_begun_before, pair_due}
use Rattle.fsb_timely.specs.Starts.{drives_ads, drives_pair, starts_requests, began_before, reply_before, asks_for_bus}
use Rattle.fsb_timely.specs.Starts.{asks_for_priority, drives_request_lines}
use Rattle.fsb_timely.specs.Snoops.{is_bnr_chosen, is_error_chosen, live_choice, is_stall_chosen, is_keep, is_put_off}
use Rattle.fsb_timely.specs.Snoops.{drives_bnr, drives_aerr, drives_stalls, drives_defer, keeps_snoop_lines}
use Rattle.fsb_timely.specs.Snoops.{drives_hazards, is_dirty_elsewhere, is_held_elsewhere, is_dirty_for, is_held_for}
use Rattle.fsb_timely.specs.Snoops.{number_served_at, was_hit_before, is_reply_end, has_right_result, has_snoop_result}
use Rattle.fsb_timely.specs.Transfers.{is_ready_due, is_response_clock, settled_of, number_responding, code_due}
use Rattle.fsb_timely.specs.Transfers.{settles_to_move, has_data_at, is_busy_at, drives_ready, drives_code}
use Rattle.fsb_timely.specs.Transfers.{drives_data_ready, drives_data_busy, keeps_data_quiet, drives_responses}
use Rattle.fsb_timely.specs.Completions.{brings_at, is_brought, is_there, completes_by, is_arrival, completed_of_item}
use Rattle.fsb_timely.specs.Completions.{next_accesses, completed_if, of_all_agents, completed_at, entries_at}
use Rattle.fsb_timely.specs.Completions.{is_operand, is_access, is_completed, are_completed, logs_completions}
use Rattle.fsb_timely.specs.Completions.{is_in_time}
use Rattle.fsb_timely.specs.BusLock.{is_begun_by, wants_lock, is_locked_request, ends_locked_item, is_lock_retried}
use Rattle.fsb_timely.specs.BusLock.{is_lock_cancelled, is_release, is_released_before, keeps_lock, drives_lock}
use Rattle.fsb_timely.specs.ParityLines.{is_even_sample, drives_parity}
use Rattle.fsb_timely.specs.Timely.{holds_in, holds_at, keeps}
use Rattle.fsb_timely.specs.Carried.{memory_below, chunk_value, carried_value, served_request, carries_from}
use Rattle.fsb_timely.specs.Carried.{carries_chunk, carries_if_due, carries_data}
use Rattle.fsb_timely.specs.Kept.{is_named_in, is_named, line_bytes, bytes_now, is_put, number_put, put_clock}
use Rattle.fsb_timely.specs.Kept.{bytes_put}

unfoldable pub opened : Bool
unfolding
    ones first_where last_where any_where each_where count_where all_where nth_where from_clock holds_since
    is_some_and is_before is_at greater_of line_at burst_order req_words is_code kind_of read_off is_pair is_coded_as
    if_coded_as request_of decoded are_lawful_fields is_lawful_request high_bit den_bit clocks row_of pairs_of
    bytes_at put_bytes put_value line_back response_code_at responds_at stalls_at known_pair known_pair_at request_at
    answers is_answered later_of is_due due_at keeps_pending is_pending is_dropped has_ended is_in_flight in_flight
    is_reply_to is_live_reply_to reply_clock_of reply_number_of reply_end_of last_clock_of is_finished is_outstanding
    outstanding does_move does_take response_code_of is_deferral outcome_by_kind response_clock_of live_response_of
    told_by outcome_of moves_data is_deferred settled_by settled_outcome_of is_settled_deferred is_cancelled seen_at
    requests_of first_clock_of is_live live_count live_clock_of live_number_of live_request_of is_reply_kind
    is_write_back_kind is_upgrade_kind is_reply is_write_back is_upgrade have_same_id line_of takes data_clock_of
    end_of is_clear_before clock_after_snoop ready_after two_after_snoop answer_from ready_clock_of
    is_every_second_from ends_snoop snoop_end_from snoop_end_if start_after_clock start_after_end snoop_end_of
    snoop_start_of is_snoop_clock_of is_snoop_clock line_at_snoop_end is_stall_from is_ready_from is_response_from
    chunk_from is_busy_from bus_request_of request_line_of is_same_agent is_agent no_requesters symmetric_after
    then_begun first_in_order agent_in_order asks_in_order first_asking last_if_asking winner_by winner_after
    requesters_before winner_at last_agent last_symmetric begins_at begun_at snooped_at ended_requests is_end_at
    grant_at set_of is_rival is_owning is_claim_of is_claim_of_other is_granted is_evicted is_snooped is_written_back
    is_taken_away is_lost holds_line latest_grant is_ended has_arrived is_named_by_other is_sole_grant
    is_exclusive line_granted_at lines_granted is_idle is_locked idle_count is_load items_of is_done_by is_done_at
    completes_at is_logged is_logged_at is_to_do next_number next_item last_done idle_clocks idle_start number_after
    is_idling plain_items window_from window_at window first_chunk locked_need plain_need needs_after needs_of
    needs_from is_met is_served is_hit is_store_on is_counted is_stored_since is_dirty line_state_of outstanding_at
    unsnooped_at owed is_asked_for is_same_set is_set_taken is_missing least_of victim_of id_of is_id_used free_id
    may_upgrade kind_needed request_of_kind write_back_of want_for want_of is_open_to_other is_held_back agent_at
    claim_at choice_at number_of_turn is_in_window effective_choice number_snooped_at is_answered_by served_number
    live_claim_of is_got is_upgraded makes_grant wins_race gives_line is_owner_request is_shared_at grant_to
    grant_for turns_in grant_of snoop_end_with snoop_end_for snoop_end_if_begun snoop_at cancelled_at responded_at
    retried_at requests_ending_at owing_for begun_with owing_at is_snoop_of is_snooped_in is_unsnooped moment_at
    requests_below entries_to run_to moments_below past_of past_to reply_to due_number would_begin is_kept_back
    is_spaced has_room has_free_winner may_begin request_begun no_pair request_begun_before pair_due drives_ads
    drives_pair starts_requests began_before reply_before asks_for_bus asks_for_priority drives_request_lines
    is_bnr_chosen is_error_chosen live_choice is_stall_chosen is_keep is_put_off drives_bnr drives_aerr drives_stalls
    drives_defer keeps_snoop_lines drives_hazards is_dirty_elsewhere is_held_elsewhere is_dirty_for is_held_for
    number_served_at was_hit_before is_reply_end has_right_result has_snoop_result is_ready_due is_response_clock
    settled_of number_responding code_due settles_to_move has_data_at is_busy_at drives_ready drives_code
    drives_data_ready drives_data_busy keeps_data_quiet drives_responses brings_at is_brought is_there completes_by
    is_arrival completed_of_item next_accesses completed_if of_all_agents completed_at entries_at is_operand
    is_access is_completed are_completed logs_completions is_in_time is_begun_by wants_lock is_locked_request
    ends_locked_item is_lock_retried is_lock_cancelled is_release is_released_before keeps_lock drives_lock
    is_even_sample drives_parity holds_in holds_at keeps memory_below chunk_value carried_value served_request
    carries_from carries_chunk carries_if_due carries_data is_named_in is_named line_bytes bytes_now is_put
    number_put put_clock bytes_put
opened = true
