-- The run that keeps no order, computed.
use Rattle.fsb_timely_laws.proofs.Words
use Words.{◌≡◌, false, refl, true, all_where, any_where, count_where, each_where, first_where, from_clock, last_where}
use Words.{holds_since, nth_where, greater_of, is_at, is_before, is_some_and, if_coded_as, is_code, is_coded_as}
use Words.{is_pair, kind_of, read_off, req_words, request_of, decoded, are_lawful_fields, clocks, den_bit, high_bit}
use Words.{is_lawful_request, pairs_of, row_of, line_at, known_pair, known_pair_at, line_back, request_at, responds_at}
use Words.{response_code_at, stalls_at, is_pending, keeps_pending, has_ended, in_flight, is_dropped, is_finished}
use Words.{is_in_flight, is_live_reply_to, is_outstanding, is_reply_to, last_clock_of, outstanding, reply_clock_of}
use Words.{reply_end_of, reply_number_of, does_move, is_deferral, is_deferred, is_settled_deferred, live_response_of}
use Words.{moves_data, outcome_by_kind, outcome_of, response_clock_of, response_code_of, settled_by, settled_outcome_of}
use Words.{told_by, have_same_id, is_cancelled, is_live, is_reply, is_reply_kind, is_write_back, is_write_back_kind}
use Words.{line_of, live_clock_of, live_count, live_number_of, live_request_of, answer_from, data_clock_of, end_of}
use Words.{ready_after, ready_clock_of, takes, two_after_snoop, clock_after_snoop, ends_snoop, is_every_second_from}
use Words.{line_at_snoop_end, snoop_end_from, snoop_end_if, snoop_end_of, start_after_clock, start_after_end}
use Words.{chunk_from, is_busy_from, is_ready_from, is_response_from, agent_in_order, asks_in_order, bus_request_of}
use Words.{first_asking, first_in_order, is_agent, is_same_agent, last_if_asking, no_requesters, request_line_of}
use Words.{requesters_before, symmetric_after, then_begun, winner_after, winner_at, winner_by, begun_at, grant_at}
use Words.{holds_line, is_owning, snooped_at, agent_at, begun_with, cancelled_at, choice_at, claim_at, effective_choice}
use Words.{gives_line, grant_for, grant_of, grant_to, is_answered_by, is_got, is_in_window, is_owner_request}
use Words.{is_shared_at, is_snoop_of, is_snooped_in, is_unsnooped, is_upgraded, live_claim_of, makes_grant, moment_at}
use Words.{number_of_turn, number_snooped_at, owing_at, owing_for, requests_ending_at, responded_at, retried_at}
use Words.{served_number, snoop_at, snoop_end_for, snoop_end_if_begun, snoop_end_with, turns_in, wins_race, entries_to}
use Words.{moments_below, past_of, past_to, requests_below, run_to, live_choice, holds_at, holds_in, code_due}
use Words.{drives_code, drives_data_busy, drives_data_ready, drives_ready, drives_responses, has_data_at, is_busy_at}
use Words.{is_ready_due, is_response_clock, keeps_data_quiet, number_responding, settled_of, settles_to_move}
use Words.{holds_in_whole}
use Rattle.fsb_timely_laws.specs.Disordered.{disordered}

pub of-the-beginning : holds_at drives_responses disordered 2 ≡ true
unfolding
    all_where any_where count_where each_where first_where from_clock last_where holds_since nth_where
    greater_of is_at is_before is_some_and if_coded_as is_code is_coded_as is_pair kind_of read_off req_words
    request_of decoded are_lawful_fields clocks den_bit high_bit is_lawful_request pairs_of row_of line_at
    known_pair known_pair_at line_back request_at responds_at response_code_at stalls_at is_pending
    keeps_pending has_ended in_flight is_dropped is_finished is_in_flight is_live_reply_to is_outstanding
    is_reply_to last_clock_of outstanding reply_clock_of reply_end_of reply_number_of does_move is_deferral
    is_deferred is_settled_deferred live_response_of moves_data outcome_by_kind outcome_of response_clock_of
    response_code_of settled_by settled_outcome_of told_by have_same_id is_cancelled is_live is_reply
    is_reply_kind is_write_back is_write_back_kind line_of live_clock_of live_count live_number_of
    live_request_of answer_from data_clock_of end_of ready_after ready_clock_of takes two_after_snoop
    clock_after_snoop ends_snoop is_every_second_from line_at_snoop_end snoop_end_from snoop_end_if snoop_end_of
    start_after_clock start_after_end chunk_from is_busy_from is_ready_from is_response_from agent_in_order
    asks_in_order bus_request_of first_asking first_in_order is_agent is_same_agent last_if_asking no_requesters
    request_line_of requesters_before symmetric_after then_begun winner_after winner_at winner_by begun_at
    grant_at holds_line is_owning snooped_at agent_at begun_with cancelled_at choice_at claim_at
    effective_choice gives_line grant_for grant_of grant_to is_answered_by is_got is_in_window is_owner_request
    is_shared_at is_snoop_of is_snooped_in is_unsnooped is_upgraded live_claim_of makes_grant moment_at
    number_of_turn number_snooped_at owing_at owing_for requests_ending_at responded_at retried_at served_number
    snoop_at snoop_end_for snoop_end_if_begun snoop_end_with turns_in wins_race entries_to moments_below past_of
    past_to requests_below run_to live_choice holds_at holds_in code_due drives_code drives_data_busy
    drives_data_ready drives_ready drives_responses has_data_at is_busy_at is_ready_due is_response_clock
    keeps_data_quiet number_responding settled_of settles_to_move holds_in_whole
of-the-beginning = refl

pub of-the-whole : holds_in_whole drives_responses disordered 2 ≡ false
unfolding
    all_where any_where count_where each_where first_where from_clock last_where holds_since nth_where
    greater_of is_at is_before is_some_and if_coded_as is_code is_coded_as is_pair kind_of read_off req_words
    request_of decoded are_lawful_fields clocks den_bit high_bit is_lawful_request pairs_of row_of line_at
    known_pair known_pair_at line_back request_at responds_at response_code_at stalls_at is_pending
    keeps_pending has_ended in_flight is_dropped is_finished is_in_flight is_live_reply_to is_outstanding
    is_reply_to last_clock_of outstanding reply_clock_of reply_end_of reply_number_of does_move is_deferral
    is_deferred is_settled_deferred live_response_of moves_data outcome_by_kind outcome_of response_clock_of
    response_code_of settled_by settled_outcome_of told_by have_same_id is_cancelled is_live is_reply
    is_reply_kind is_write_back is_write_back_kind line_of live_clock_of live_count live_number_of
    live_request_of answer_from data_clock_of end_of ready_after ready_clock_of takes two_after_snoop
    clock_after_snoop ends_snoop is_every_second_from line_at_snoop_end snoop_end_from snoop_end_if snoop_end_of
    start_after_clock start_after_end chunk_from is_busy_from is_ready_from is_response_from agent_in_order
    asks_in_order bus_request_of first_asking first_in_order is_agent is_same_agent last_if_asking no_requesters
    request_line_of requesters_before symmetric_after then_begun winner_after winner_at winner_by begun_at
    grant_at holds_line is_owning snooped_at agent_at begun_with cancelled_at choice_at claim_at
    effective_choice gives_line grant_for grant_of grant_to is_answered_by is_got is_in_window is_owner_request
    is_shared_at is_snoop_of is_snooped_in is_unsnooped is_upgraded live_claim_of makes_grant moment_at
    number_of_turn number_snooped_at owing_at owing_for requests_ending_at responded_at retried_at served_number
    snoop_at snoop_end_for snoop_end_if_begun snoop_end_with turns_in wins_race entries_to moments_below past_of
    past_to requests_below run_to live_choice holds_at holds_in code_due drives_code drives_data_busy
    drives_data_ready drives_ready drives_responses has_data_at is_busy_at is_ready_due is_response_clock
    keeps_data_quiet number_responding settled_of settles_to_move holds_in_whole
of-the-whole = refl
