-- The words and lemmas of the crates below that the proofs of this crate cite, passed on in one place.

pub use Rattle.std.proofs.Common.{ℕ, ◌<◌, ◌≡◌, false, None, is_some, length, refl, ap, arith, below_more, ◌+◌, true}
pub use Rattle.std.proofs.Common.{take, zero, suc, ◌≤◌, ◌||◌, Option, Some, max, add-one, subst, Bool, not, ◌&&◌, sym}
pub use Rattle.std.proofs.Common.{◌∙◌, nat_lt, nat_le, is_none, ◌-◌, nat_eq, ◌⊎◌, inl, inr, ◌*◌, if◌then◌else◌, List}
pub use Rattle.std.proofs.Common.{[], ◌∷◌, slice_index, ◌/◌, ◌^◌, drop, ◌++◌, map, append-nil}
pub use Rattle.std.specs.Option.{option_map, option_and_then, option_map_or}
pub use Rattle.std.proofs.lemmas.Bool.{and_parts, or_from, ltb-true, lt-leb, eqb-true, le-leb, eq-eqb, or_left}
pub use Rattle.std.proofs.lemmas.Bool.{cases_lt, cases_Bool, lt-ltb, and_from, false_from_ne_true, or_right, ne_eqb}
pub use Rattle.std.proofs.lemmas.Bool.{leb-false, or_parts, le-ltb, and_right, leb-true}
pub use Rattle.std.specs.List.{slice_get, list_any, filter, list_all, find, range_with_len, filter_map}
pub use Rattle.std.proofs.lemmas.List.{length-take-le, take-append-le, take_all, length-append}
pub use Rattle.std.proofs.lemmas.List.Elements.{filter-append, filter_map-append}
pub use Rattle.std.proofs.lemmas.List.Folds.{list_any-append}
pub use Rattle.fsb_count.proofs.Interface.{first_where-off, count_where-above, nth_where-found, nth_where-there}
pub use Rattle.fsb_count.proofs.Interface.{nth_where-at, any_where-found, count_where-mono, is_before-parts}
pub use Rattle.fsb_count.proofs.Interface.{any_where-at, any_where-same, holds_since-more, first_where-found}
pub use Rattle.fsb_count.proofs.Interface.{first_where-none, count_where-same, any_where-off, count_where-passed}
pub use Rattle.fsb_count.proofs.Interface.{first_where-carried, is_at-some, nth_where-one, is_before-from}
pub use Rattle.fsb_count.proofs.Interface.{each_where-at, any_where-none}
pub use Rattle.fsb_signal.specs.declared.marks.Marks.{Marks}
pub use Rattle.fsb_signal.specs.Parity.{marks_in}
unfoldable pub use Rattle.fsb_signal.specs.Parity.{is_address_odd, is_request_odd}
pub use Rattle.fsb_trace.specs.At.{Trace}
unfoldable pub use Rattle.fsb_trace.specs.At.{line_back, responds_at, known_pair_at, request_at, response_code_at}
unfoldable pub use Rattle.fsb_trace.specs.Verdict.{is_broken, breaks_a_rule, least_rule, verdict}
pub use Rattle.fsb_trace.proofs.Interface.{breaks-none, breaks-10, snoop_end_of-stays, snoop_end_of-before}
pub use Rattle.fsb_trace.proofs.Interface.{end_of-stays, end_of-response, live_request_of-stays}
pub use Rattle.fsb_trace.proofs.Interface.{line_at_snoop_end-stays, breaks-13, breaks-15, breaks-2, breaks-4, breaks-5}
pub use Rattle.fsb_trace.proofs.Interface.{breaks-6, winner_after-low, breaks-9, breaks-3, AgreeTo-sym}
pub use Rattle.fsb_trace.proofs.Interface.{live_clock_of-stays, snoop_end_of-clock, breaks-16, end_of-moving}
pub use Rattle.fsb_trace.proofs.Interface.{line_at-agree, outcome_of-stays, responds_at-agree, response_clock_of-stays}
pub use Rattle.fsb_trace.proofs.Interface.{request_at-agree, breaks-19, breaks-20, is_live-agree, live_clock_of-number}
pub use Rattle.fsb_trace.proofs.Interface.{snoop_end_of-rises, winner_at-agree, breaks-7, breaks-1, breaks-17}
pub use Rattle.fsb_trace.proofs.Interface.{requesters_before-begun, requesters_before-kept, requesters_before-start}
pub use Rattle.fsb_trace.proofs.Interface.{winner_after-high, winner_by-locked, winner_by-priority, winner_by-symmetric}
pub use Rattle.fsb_trace.proofs.Interface.{breaks-18, breaks-8, ready_clock_of-stays, breaks-14, live_response_of-there}
pub use Rattle.fsb_trace.proofs.Interface.{response_code_at-agree, breaks-11, live_below_count, breaks-12}
pub use Rattle.fsb_trace.proofs.Interface.{live_request_of-at}
pub use Rattle.fsb_timely.specs.Runs.{Run, past_with}
unfoldable pub use Rattle.fsb_timely.specs.Runs.{run_to, past_of, past_to, requests_below, moments_below, entries_to}
pub use Rattle.fsb_timely.specs.Timely.{Timely}
unfoldable pub use Rattle.fsb_timely.specs.Timely.{holds_in, holds_at}
pub use Rattle.fsb_signal.specs.declared.lines.TheConstants.Lines.{ADS, AERR, HITM, TRDY, BNR, LOCK, DRDY, DBSY, BPRI}
pub use Rattle.fsb_signal.specs.declared.lines.TheConstants.Lines.{DEFER, HIT}
pub use Rattle.fsb_signal.specs.Samples.{has_line, has_known_lines, is_known, is_known_trace}
unfoldable pub use Rattle.fsb_signal.specs.Samples.{line_at}
unfoldable pub use Rattle.fsb_trace.specs.Rules.{is_error_alone, next_response, may_answer, is_response_early}
unfoldable pub use Rattle.fsb_trace.specs.Rules.{responds_soundly, is_ready_in_time, is_ready_wrongly}
unfoldable pub use Rattle.fsb_trace.specs.Rules.{is_target_ready_wrong, is_request_too_soon, is_queue_full}
unfoldable pub use Rattle.fsb_trace.specs.Rules.{is_request_blocked, has_no_winner, is_lock_alone, is_code_unlawful}
unfoldable pub use Rattle.fsb_trace.specs.Rules.{is_transferring, is_data_wrong, is_address_parity_wrong}
unfoldable pub use Rattle.fsb_trace.specs.Rules.{is_request_parity_wrong, is_marked_address_wrong}
unfoldable pub use Rattle.fsb_trace.specs.Rules.{is_marked_request_wrong, is_own_id, is_identified, is_identity_wrong}
unfoldable pub use Rattle.fsb_trace.specs.Rules.{breaks, has_unknown_line, has_unknown_data, awaits_reply}
unfoldable pub use Rattle.fsb_trace.specs.Rules.{is_begun_wrongly, is_id_taken_by, is_outstanding_of_winner}
unfoldable pub use Rattle.fsb_trace.specs.Rules.{is_outstanding_wrong, is_asked_wrongly, is_some_asked_wrongly, has_den}
unfoldable pub use Rattle.fsb_trace.specs.Rules.{is_code_for, has_code_at, is_code_wrong, is_snoop_line_alone}
unfoldable pub use Rattle.fsb_trace.specs.Rules.{is_result_unfit_for, is_snoop_result_unfit}
pub use Rattle.fsb_timely.specs.Past.{Past, Owing, Claim, Grant, Moment, SnoopEnd}
unfoldable pub use Rattle.fsb_timely.specs.Snoops.{is_error_chosen, drives_aerr, drives_hazards, live_choice, is_keep}
unfoldable pub use Rattle.fsb_timely.specs.Snoops.{is_put_off, drives_defer, keeps_snoop_lines, has_right_result}
unfoldable pub use Rattle.fsb_timely.specs.Snoops.{has_snoop_result, is_dirty_elsewhere, is_dirty_for}
unfoldable pub use Rattle.fsb_timely.specs.Snoops.{is_held_elsewhere, is_held_for, is_reply_end}
unfoldable pub use Rattle.fsb_count.specs.Options.{is_some_and, is_before, greater_of, is_at}
pub use Rattle.fsb_count.specs.Clocks.{AgreeBelow}
unfoldable pub use Rattle.fsb_count.specs.Clocks.{count_where, nth_where, any_where, from_clock, last_where}
unfoldable pub use Rattle.fsb_count.specs.Clocks.{holds_since, first_where, all_where, each_where}
pub use Rattle.fsb_trace.specs.Agree.{AgreeTo}
unfoldable pub use Rattle.fsb_trace.specs.Requests.{is_write_back, live_count, is_live, live_clock_of, is_cancelled}
unfoldable pub use Rattle.fsb_trace.specs.Requests.{have_same_id, is_reply, live_request_of, is_reply_kind, line_of}
unfoldable pub use Rattle.fsb_trace.specs.Requests.{live_number_of, is_upgrade_kind, is_write_back_kind, is_upgrade}
unfoldable pub use Rattle.fsb_trace.specs.Snoop.{snoop_end_of, line_at_snoop_end, is_every_second_from, ends_snoop}
unfoldable pub use Rattle.fsb_trace.specs.Snoop.{snoop_end_from, snoop_end_if, snoop_start_of, is_snoop_clock_of}
unfoldable pub use Rattle.fsb_trace.specs.Snoop.{is_snoop_clock}
unfoldable pub use Rattle.fsb_trace.specs.Outcome.{response_clock_of, response_code_of, does_move, moves_data}
unfoldable pub use Rattle.fsb_trace.specs.Outcome.{is_deferral, is_settled_deferred, is_deferred, outcome_by_kind}
unfoldable pub use Rattle.fsb_trace.specs.Outcome.{settled_by, told_by, outcome_of, settled_outcome_of}
unfoldable pub use Rattle.fsb_trace.specs.Response.{takes, end_of, is_clear_before, two_after_snoop, answer_from}
unfoldable pub use Rattle.fsb_trace.specs.Response.{ready_clock_of}
pub use Rattle.fsb_laws.proofs.Interface.{HasAnswer, clear_parts, may_answer-from, has_answer, is_transferring-last}
pub use Rattle.fsb_laws.proofs.Interface.{is_transferring-none, last_is_live, response_past, response_there}
pub use Rattle.fsb_laws.proofs.Interface.{transferring_form, response_counted, deferred_response, end_after_clock}
pub use Rattle.fsb_laws.proofs.Interface.{end_of-kept, is_outstanding-end, last_clock_of-deferred, last_clock_of-plain}
pub use Rattle.fsb_laws.proofs.Interface.{live_of_reply, same_answered, same_deferred, same_live_request, after_answer}
pub use Rattle.fsb_laws.proofs.Interface.{answer_later, has_ready, ads_before_end, may_answer-stays, BeginsAfter}
pub use Rattle.fsb_laws.proofs.Interface.{same_outstanding, finished-deferred, finished-plain, is_deferred-old}
pub use Rattle.fsb_laws.proofs.Interface.{is_live-ads, is_live-more, live_number_of-more, request_at-last}
unfoldable pub use Rattle.fsb_timely.specs.Transfers.{is_ready_due, settled_of, settles_to_move, has_data_at}
unfoldable pub use Rattle.fsb_timely.specs.Transfers.{is_busy_at, is_response_clock, number_responding, code_due}
unfoldable pub use Rattle.fsb_timely.specs.Transfers.{drives_ready, drives_code, drives_data_ready, drives_data_busy}
unfoldable pub use Rattle.fsb_timely.specs.Transfers.{drives_responses}
pub use Rattle.fsb_trace.specs.Winner.{Requesters}
unfoldable pub use Rattle.fsb_trace.specs.Winner.{winner_at, begins_at, is_agent, is_same_agent, agent_in_order}
unfoldable pub use Rattle.fsb_trace.specs.Winner.{first_asking, last_if_asking, requesters_before, then_begun}
unfoldable pub use Rattle.fsb_trace.specs.Winner.{winner_after, winner_by, bus_request_of, request_line_of}
unfoldable pub use Rattle.fsb_trace.specs.Flight.{in_flight, is_dropped, is_in_flight, is_reply_to, is_live_reply_to}
unfoldable pub use Rattle.fsb_trace.specs.Flight.{is_outstanding, last_clock_of, outstanding, reply_clock_of}
unfoldable pub use Rattle.fsb_trace.specs.Flight.{reply_end_of, reply_number_of}
pub use Rattle.fsb_trace.specs.declared.who.Who.{Who}
unfoldable pub use Rattle.fsb_timely.specs.Starts.{is_kept_back, is_spaced, has_room, has_free_winner, may_begin}
unfoldable pub use Rattle.fsb_timely.specs.Starts.{drives_ads, starts_requests, request_begun, request_begun_before}
unfoldable pub use Rattle.fsb_timely.specs.Starts.{pair_due, drives_pair, due_number, reply_to, would_begin}
unfoldable pub use Rattle.fsb_timely.specs.Starts.{reply_before, asks_for_bus, asks_for_priority, began_before}
unfoldable pub use Rattle.fsb_timely.specs.Starts.{drives_request_lines}
unfoldable pub use Rattle.fsb_encode.specs.Decoded.{is_pair, if_coded_as, is_coded_as, kind_of, read_off, request_of}
pub use Rattle.fsb_encode.specs.declared.request.Pair.{Pair}
pub use Rattle.fsb_encode.specs.declared.request.Request.{Request}
unfoldable pub use Rattle.fsb_encode.specs.Request.{is_lawful_request, pairs_of, are_lawful_fields}
unfoldable pub use Rattle.fsb_timely.specs.Moments.{moment_at, begun_with, retried_at, responded_at, cancelled_at}
unfoldable pub use Rattle.fsb_timely.specs.Moments.{choice_at, number_of_turn, turns_in, agent_at, claim_at, owing_at}
unfoldable pub use Rattle.fsb_timely.specs.Moments.{owing_for, requests_ending_at, gives_line, grant_for, grant_of}
unfoldable pub use Rattle.fsb_timely.specs.Moments.{grant_to, live_claim_of, number_snooped_at, snoop_at, snoop_end_for}
unfoldable pub use Rattle.fsb_timely.specs.Moments.{snoop_end_if_begun, snoop_end_with, is_answered_by, served_number}
unfoldable pub use Rattle.fsb_timely.specs.Moments.{effective_choice}
unfoldable pub use Rattle.fsb_timely.specs.Grants.{begun_at, snooped_at, ended_requests, grant_at, is_end_at}
unfoldable pub use Rattle.fsb_timely.specs.Grants.{is_granted, is_rival, line_granted_at, lines_granted, holds_line}
unfoldable pub use Rattle.fsb_timely.specs.Grants.{is_exclusive}
pub use Rattle.fsb_timely.specs.Scripts.{Need}
unfoldable pub use Rattle.fsb_timely.specs.Scripts.{items_of, is_locked, is_idling, needs_from, next_number, window}
unfoldable pub use Rattle.fsb_timely.specs.Scripts.{window_at, first_chunk, locked_need, needs_after, needs_of}
unfoldable pub use Rattle.fsb_timely.specs.Scripts.{plain_items, plain_need, window_from}
pub use Rattle.fsb_timely.proofs.Interface.{last-same, moment_of, moment-at, length-moments, snoop-tied, number-says}
pub use Rattle.fsb_timely.proofs.Interface.{snooped-there, moment-snooped, snoop_of, below_le, done_below}
pub use Rattle.fsb_timely.proofs.Interface.{timely-want-stays, want_of-alike}
unfoldable pub use Rattle.fsb_trace.specs.Timing.{chunk_from, is_busy_from, is_ready_from, is_response_from}
pub use Rattle.fsb_hazard.specs.Choice.{quiet_choice, is_never_held_up, is_defer}
pub use Rattle.fsb_access.specs.declared.log.Done.{Done}
pub use Rattle.fsb_trace.specs.declared.who.Who.TheVariants.{Priority, Symmetric}
unfoldable pub use Rattle.fsb_trace.specs.Deferral.{answers, due_at, is_answered, is_due, later_of}
pub use Rattle.fsb_signal.specs.declared.sample.Sample.{Sample}
pub use Rattle.fsb_encode.specs.declared.request.Kind.{Kind}
pub use Rattle.fsb_hazard.specs.declared.choice.Turn.{Turn}
pub use Rattle.fsb_hazard.specs.declared.choice.Turn.TheVariants.{Keep, Retry, Defer}
unfoldable pub use Rattle.fsb_timely.specs.Completions.{brings_at, is_brought, is_in_time}
unfoldable pub use Rattle.fsb_timely.specs.Wants.{free_id, is_asked_for, owed, id_of, is_id_used, is_missing}
unfoldable pub use Rattle.fsb_timely.specs.Wants.{kind_needed, least_of, request_of_kind, victim_of, want_for, want_of}
unfoldable pub use Rattle.fsb_timely.specs.Wants.{write_back_of, outstanding_at}
pub use Rattle.fsb_access.specs.declared.item.Item.{Item}
pub use Rattle.fsb_encode.specs.declared.request.Kind.TheVariants.{Invalidate, Read, Upgrade, Reply, WriteBack}
pub use Rattle.fsb_script.specs.Bounds.{is_lawful_item}
unfoldable pub use Rattle.fsb_script.specs.Bounds.{is_lawful_script}
pub use Rattle.fsb_trace.specs.declared.outcome.Outcome.{Outcome}
unfoldable pub use Rattle.fsb_timely.specs.Hits.{is_dirty}
pub use Rattle.fsb_laws.specs.Orderly.{Orderly}
pub use Rattle.fsb_timely.specs.Tied.{IsSnoopOf}
pub use Rattle.fsb_lawful.specs.Beginning.{KeepsBounds, WantsLawfully}
pub use Rattle.fsb_lawful.specs.Keeps.{Keeps}
pub use Rattle.fsb_lawful.specs.Premises.{WritesBackAlone}
