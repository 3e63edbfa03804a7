-- The words and lemmas of the crates below that the proofs of this crate cite, passed on in one place.

pub use Rattle.std.proofs.Common.{ℕ, zero, suc, ◌+◌, ◌<◌, ◌≤◌, ◌≡◌, Bool, true, false, not, ◌&&◌, nat_lt, Option, Some}
pub use Rattle.std.proofs.Common.{None, length, max, refl, sym, ap, ◌∙◌, arith, cond, ◌||◌, nat_le, List, [], ◌∷◌, ◌++◌}
pub use Rattle.std.proofs.Common.{take, slice_get, inl, inr, nat_eq, slice_index, if◌then◌else◌, subst, ◌-◌, map, ◌*◌}
pub use Rattle.std.proofs.Common.{is_some, ◌↔◌}
pub use Rattle.std.specs.Option.{option_map, option_map_or, option_and_then}
pub use Rattle.std.proofs.lemmas.Bool.{and_parts, and_from, leb-true, lt-ltb, cases_Bool, cases_lt, false_from_ne_true}
pub use Rattle.std.proofs.lemmas.Bool.{le-leb, lt-leb, and_cases, and_right, le-ltb, eqb-true, ltb-true}
pub use Rattle.std.specs.List.{filter, list_all, list_any}
pub use Rattle.std.specs.Bool.{beq}
pub use Rattle.std.proofs.lemmas.List.{length-take-le, take_all}
pub use Rattle.fsb_count.specs.Clocks.{AgreeBelow}
unfoldable pub use Rattle.fsb_count.specs.Clocks.{from_clock, nth_where, count_where, each_where, all_where, any_where}
unfoldable pub use Rattle.fsb_count.specs.Clocks.{first_where, last_where, holds_since}
unfoldable pub use Rattle.fsb_count.specs.Options.{greater_of, is_before, is_some_and, is_at}
pub use Rattle.fsb_count.proofs.Interface.{nth_where-carried, nth_where-found, count_where-above, count_where-mono}
pub use Rattle.fsb_count.proofs.Interface.{count_where-same, is_at-from, is_at-some, any_where-same}
pub use Rattle.fsb_count.proofs.Interface.{first_where-carried, first_where-found, is_before-from, is_before-parts}
pub use Rattle.fsb_count.proofs.Interface.{first_where-same, any_where-found, any_where-at, each_where-all}
pub use Rattle.fsb_count.proofs.Interface.{each_where-at, first_where-at}
pub use Rattle.fsb_signal.specs.declared.lines.TheConstants.Lines.{DRDY, ADS, LOCK, AERR, BNR, DEFER, HIT, HITM, BPRI}
pub use Rattle.fsb_signal.specs.declared.lines.TheConstants.Lines.{DBSY, TRDY}
pub use Rattle.fsb_signal.specs.Samples.{has_line, data_at, known_word}
unfoldable pub use Rattle.fsb_signal.specs.Samples.{line_at}
pub use Rattle.fsb_trace.specs.At.{Trace}
unfoldable pub use Rattle.fsb_trace.specs.At.{known_pair, known_pair_at, line_back, request_at, responds_at}
unfoldable pub use Rattle.fsb_trace.specs.At.{response_code_at, stalls_at}
pub use Rattle.fsb_trace.specs.Agree.{AgreeTo}
unfoldable pub use Rattle.fsb_trace.specs.Requests.{live_clock_of, live_count, live_request_of, have_same_id}
unfoldable pub use Rattle.fsb_trace.specs.Requests.{is_cancelled, is_live, is_reply, is_reply_kind, is_write_back}
unfoldable pub use Rattle.fsb_trace.specs.Requests.{is_write_back_kind, line_of, live_number_of}
unfoldable pub use Rattle.fsb_trace.specs.Snoop.{is_every_second_from, is_snoop_clock, is_snoop_clock_of, snoop_end_of}
unfoldable pub use Rattle.fsb_trace.specs.Snoop.{snoop_start_of, start_after_clock, start_after_end, ends_snoop}
unfoldable pub use Rattle.fsb_trace.specs.Snoop.{line_at_snoop_end, snoop_end_from, snoop_end_if}
unfoldable pub use Rattle.fsb_trace.specs.Outcome.{does_move, moves_data, response_clock_of, is_deferral, is_deferred}
unfoldable pub use Rattle.fsb_trace.specs.Outcome.{is_settled_deferred, live_response_of, outcome_by_kind, outcome_of}
unfoldable pub use Rattle.fsb_trace.specs.Outcome.{response_code_of, settled_by, settled_outcome_of, told_by}
unfoldable pub use Rattle.fsb_trace.specs.Response.{data_clock_of, end_of, answer_from, ready_after, ready_clock_of}
unfoldable pub use Rattle.fsb_trace.specs.Response.{takes, two_after_snoop, clock_after_snoop}
pub use Rattle.fsb_trace.proofs.Interface.{AgreeTo-sym, end_of-response, end_of-stays, line_at-agree, live_below_count}
pub use Rattle.fsb_trace.proofs.Interface.{live_clock_of-stays, outcome_of-stays, response_clock_of-stays}
pub use Rattle.fsb_trace.proofs.Interface.{snoop_clock-start, snoop_end_of-stays, is_cancelled-agree, is_live-agree}
pub use Rattle.fsb_trace.proofs.Interface.{live_clock_of-number, live_request_of-stays, request_at-agree}
pub use Rattle.fsb_trace.proofs.Interface.{snoop_end_of-clock, ready_clock_of-stays, snoop_end_of-rises}
pub use Rattle.fsb_trace.proofs.Interface.{line_at_snoop_end-stays, stalls_at-agree, winner_at-agree}
pub use Rattle.fsb_trace.proofs.Interface.{response_code_at-agree}
pub use Rattle.fsb_laws.specs.Orderly.{Orderly}
pub use Rattle.fsb_laws.proofs.Interface.{HasAnswer, has_answer, ads_before_end, may_answer-stays, orderly-empty}
pub use Rattle.fsb_laws.proofs.Interface.{may_answer-from}
unfoldable pub use Rattle.fsb_timely.specs.Completions.{is_in_time, completed_at, completed_if, completed_of_item}
unfoldable pub use Rattle.fsb_timely.specs.Completions.{entries_at, is_arrival, logs_completions, next_accesses}
unfoldable pub use Rattle.fsb_timely.specs.Completions.{are_completed, of_all_agents}
pub use Rattle.fsb_timely.specs.Growth.{GoesOn}
unfoldable pub use Rattle.fsb_timely.specs.Moments.{choice_at, served_number, agent_at, begun_with, cancelled_at}
unfoldable pub use Rattle.fsb_timely.specs.Moments.{claim_at, effective_choice, gives_line, grant_for, grant_of}
unfoldable pub use Rattle.fsb_timely.specs.Moments.{grant_to, is_answered_by, is_got, is_in_window, is_owner_request}
unfoldable pub use Rattle.fsb_timely.specs.Moments.{is_shared_at, is_snoop_of, is_snooped_in, is_unsnooped, is_upgraded}
unfoldable pub use Rattle.fsb_timely.specs.Moments.{live_claim_of, makes_grant, moment_at, number_of_turn}
unfoldable pub use Rattle.fsb_timely.specs.Moments.{number_snooped_at, owing_at, owing_for, requests_ending_at}
unfoldable pub use Rattle.fsb_timely.specs.Moments.{responded_at, retried_at, snoop_at, snoop_end_for}
unfoldable pub use Rattle.fsb_timely.specs.Moments.{snoop_end_if_begun, snoop_end_with, turns_in, wins_race}
pub use Rattle.fsb_timely.specs.Past.{Past, SnoopEnd}
pub use Rattle.fsb_timely.specs.Runs.{Run}
unfoldable pub use Rattle.fsb_timely.specs.Runs.{entries_to, moments_below, past_of, past_to, requests_below, run_to}
pub use Rattle.fsb_timely.specs.Carried.{Carried}
unfoldable pub use Rattle.fsb_timely.specs.Carried.{carried_value, carries_chunk, carries_data, carries_from}
unfoldable pub use Rattle.fsb_timely.specs.Carried.{carries_if_due, chunk_value, served_request, memory_below}
unfoldable pub use Rattle.fsb_encode.specs.Decoded.{if_coded_as, is_code, is_coded_as, is_pair, kind_of, read_off}
unfoldable pub use Rattle.fsb_encode.specs.Decoded.{req_words, request_of, decoded}
unfoldable pub use Rattle.fsb_encode.specs.Request.{are_lawful_fields, clocks, den_bit, high_bit, is_lawful_request}
unfoldable pub use Rattle.fsb_encode.specs.Request.{pairs_of, row_of}
unfoldable pub use Rattle.fsb_trace.specs.Deferral.{is_pending, keeps_pending, answers, is_answered, due_at, is_due}
unfoldable pub use Rattle.fsb_trace.specs.Deferral.{later_of}
unfoldable pub use Rattle.fsb_trace.specs.Flight.{has_ended, in_flight, is_dropped, is_finished, is_in_flight}
unfoldable pub use Rattle.fsb_trace.specs.Flight.{is_live_reply_to, is_outstanding, is_reply_to, last_clock_of}
unfoldable pub use Rattle.fsb_trace.specs.Flight.{outstanding, reply_clock_of, reply_end_of, reply_number_of}
unfoldable pub use Rattle.fsb_trace.specs.Timing.{chunk_from, is_busy_from, is_ready_from, is_response_from}
unfoldable pub use Rattle.fsb_trace.specs.Timing.{is_stall_from}
unfoldable pub use Rattle.fsb_trace.specs.Winner.{agent_in_order, asks_in_order, bus_request_of, first_asking}
unfoldable pub use Rattle.fsb_trace.specs.Winner.{first_in_order, is_agent, is_same_agent, last_if_asking}
unfoldable pub use Rattle.fsb_trace.specs.Winner.{no_requesters, request_line_of, requesters_before, symmetric_after}
unfoldable pub use Rattle.fsb_trace.specs.Winner.{then_begun, winner_after, winner_at, winner_by, begins_at}
unfoldable pub use Rattle.fsb_timely.specs.Grants.{begun_at, grant_at, holds_line, is_owning, snooped_at}
unfoldable pub use Rattle.fsb_timely.specs.Snoops.{live_choice, drives_aerr, drives_bnr, drives_defer, drives_hazards}
unfoldable pub use Rattle.fsb_timely.specs.Snoops.{drives_stalls, has_right_result, has_snoop_result, is_bnr_chosen}
unfoldable pub use Rattle.fsb_timely.specs.Snoops.{is_dirty_elsewhere, is_dirty_for, is_error_chosen, is_held_elsewhere}
unfoldable pub use Rattle.fsb_timely.specs.Snoops.{is_held_for, is_keep, is_put_off, is_reply_end, is_stall_chosen}
unfoldable pub use Rattle.fsb_timely.specs.Snoops.{keeps_snoop_lines, number_served_at, was_hit_before}
pub use Rattle.fsb_timely.specs.Timely.{Part, AtEachClock, Timely}
unfoldable pub use Rattle.fsb_timely.specs.Timely.{holds_at, holds_in}
unfoldable pub use Rattle.fsb_timely.specs.Transfers.{code_due, drives_code, drives_data_busy, drives_data_ready}
unfoldable pub use Rattle.fsb_timely.specs.Transfers.{drives_ready, drives_responses, has_data_at, is_busy_at}
unfoldable pub use Rattle.fsb_timely.specs.Transfers.{is_ready_due, is_response_clock, keeps_data_quiet}
unfoldable pub use Rattle.fsb_timely.specs.Transfers.{number_responding, settled_of, settles_to_move}
unfoldable pub use Rattle.fsb_timely.specs.Hits.{is_hit, is_dirty}
pub use Rattle.fsb_timely.proofs.Interface.{is_arrival-alike, is_hit-alike, last-same, moment-at, moment_of}
pub use Rattle.fsb_timely.proofs.Interface.{next_item-alike, next_number-alike, number-found, number-says, snoop-tied}
pub use Rattle.fsb_timely.proofs.Interface.{done_below, is_dirty-alike, is_held_back-alike, want_of-alike, going-alike}
pub use Rattle.fsb_timely.proofs.Interface.{holds_line-same}
pub use Rattle.fsb_lawful.proofs.Interface.{length-cut, live-ads, past-cut, snooped-to, some-and, IsReadyDue}
pub use Rattle.fsb_lawful.proofs.Interface.{Responding, chunk-bounds, map-some, ready-answer, ready-stays}
pub use Rattle.fsb_lawful.proofs.Interface.{responding-answer, responding-stays, orderly-at, and4, and5}
pub use Rattle.fsb_lawful.proofs.Interface.{answered-before, not-true, one-response, response-before, same-beq}
unfoldable pub use Rattle.fsb_timely.specs.Starts.{asks_for_bus, asks_for_priority, began_before, drives_ads}
unfoldable pub use Rattle.fsb_timely.specs.Starts.{drives_pair, drives_request_lines, due_number, has_free_winner}
unfoldable pub use Rattle.fsb_timely.specs.Starts.{has_room, is_kept_back, is_spaced, may_begin, no_pair, pair_due}
unfoldable pub use Rattle.fsb_timely.specs.Starts.{reply_before, reply_to, request_begun, request_begun_before}
unfoldable pub use Rattle.fsb_timely.specs.Starts.{starts_requests, would_begin}
pub use Rattle.fsb_timely_laws.specs.Whole.{IsSaidOfTheWhole, KeepsOrder, EachIsSaidOfTheWhole, Throughout}
pub use Rattle.fsb_timely_laws.specs.Whole.{TimelyAsAWhole}
unfoldable pub use Rattle.fsb_timely_laws.specs.Whole.{holds_in_whole}
