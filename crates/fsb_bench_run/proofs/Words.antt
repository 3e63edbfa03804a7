-- The words and lemmas of the crates below that the proofs of this crate cite, passed on in one place.

pub use Rattle.std.proofs.Common.{ℕ, zero, suc, ◌<◌, ◌≡◌, Bool, true, false, Some, [], ◌∷◌, ◌++◌, length, add-one}
pub use Rattle.std.proofs.Common.{append-nil, refl, ◌∙◌, arith, Option, List, ◌+◌, ◌⊎◌, if◌then◌else◌, fold, nat_eq}
pub use Rattle.std.proofs.Common.{sym, ap, subst, inl, inr, ◌||◌, None, is_some, ◌&&◌, not, ◌≢◌, map, ◌-◌, ◌≤◌, ◌==◌}
pub use Rattle.std.proofs.Common.{◌/◌, nat_le, ◌*◌, ◌%◌, ◌^◌, eqb, nat_lt, slice_index, is_none, cond, take}
pub use Rattle.std.proofs.Common.{append_assoc, drop}
pub use Rattle.std.specs.Option.{option_map_or, option_map, option_and_then}
pub use Rattle.std.proofs.lemmas.Option.{slice_get_within, slice_get-map, slice_get_past, get_or_from_slice_get}
pub use Rattle.std.proofs.lemmas.Option.{slice_get_cases}
pub use Rattle.std.proofs.lemmas.Bool.{both_ways, eq-eqb, eqb-true, lt-leb, and_from, eqb-false, false_from_ne_true}
pub use Rattle.std.proofs.lemmas.Bool.{and_parts, le-leb, cases_lt, lt-ltb, or_right, ne_eqb, leb-true, cases_Bool}
pub use Rattle.std.proofs.lemmas.Bool.{or_cases, or_left, and_left, and_right, cases_order, ltb-false}
pub use Rattle.std.specs.List.{list_all, list_any, find, slice_get, filter, filter_map}
pub use Rattle.std.proofs.lemmas.List.{take-append-le, length-map, map-append, length-append, take_all, get_or_past}
pub use Rattle.std.specs.Int.RustNames.{bit_and, count_ones}
pub use Rattle.std.proofs.lemmas.List.Elements.{filter-append}
pub use Rattle.std.proofs.lemmas.List.Folds.{list_any-append, list_all-append}
pub use Rattle.std.specs.Bool.{beq}
pub use Rattle.std.proofs.Math.Nat.{mod-eq_of_lt}
unfoldable pub use Rattle.fsb_count.specs.Clocks.{all_where, last_where, each_where, nth_where, count_where, any_where}
unfoldable pub use Rattle.fsb_count.specs.Clocks.{holds_since, from_clock, first_where}
pub use Rattle.fsb_count.proofs.Interface.{all_where-failed, all_where-passed, last_where-failed, last_where-passed}
pub use Rattle.fsb_count.proofs.Interface.{each_where-all, nat_eq-sym, any_where-at, any_where-off, first_where-found}
pub use Rattle.fsb_count.proofs.Interface.{first_where-none, is_at-some, is_before-from, nth_where-found}
pub use Rattle.fsb_count.proofs.Interface.{any_where-same, first_where-same, slice_get-end, nth_where-at}
pub use Rattle.fsb_count.proofs.Interface.{any_where-found, holds_since-more, count_where-failed, count_where-passed}
pub use Rattle.fsb_count.proofs.Interface.{count_where-same, count_where-above, length-all_where, nth_where-rises}
pub use Rattle.fsb_count.proofs.Interface.{slice_get-push, any_where-more, each_where-at}
pub use Rattle.fsb_phase_run.proofs.Interface.{agree-grown, longer, snooped-same, ended-now, agree-back, code-shown}
pub use Rattle.fsb_phase_run.proofs.Interface.{responded-now, choice-same, entry-held, snoops-first, stall-drive}
pub use Rattle.fsb_phase_run.proofs.Interface.{retried-now, outcome-settled, queue-goes-on, turn-same, write-back-kept}
pub use Rattle.fsb_phase_run.proofs.Interface.{busy-drive, chunk-drive, code-drive, ready-drive, number-held}
pub use Rattle.fsb_phase_run.proofs.Interface.{snooped-now}
pub use Rattle.fsb_signal.specs.declared.lines.TheConstants.Lines.{ADS, BPRI, BREQ0, BREQ1, BREQ2, BREQ3, AERR, AP0}
pub use Rattle.fsb_signal.specs.declared.lines.TheConstants.Lines.{AP1, BNR, DBSY, DEFER, DRDY, HIT, HITM, LOCK, RP}
pub use Rattle.fsb_signal.specs.declared.lines.TheConstants.Lines.{RS0, RS1, RS2, TRDY}
pub use Rattle.fsb_signal.specs.Samples.{has_line, response_of, data_at, known_word, is_known, is_known_trace}
unfoldable pub use Rattle.fsb_signal.specs.Samples.{line_at}
pub use Rattle.fsb_timely.specs.Growth.{GrowsTo, GoesOn, IsWhole, IsNext}
unfoldable pub use Rattle.fsb_timely.specs.Growth.{moment_at_growth, past_at_growth}
pub use Rattle.fsb_timely.specs.Runs.{Run, next_moment}
unfoldable pub use Rattle.fsb_timely.specs.Runs.{past_of, past_to, run_to, requests_below, moments_below, entries_to}
pub use Rattle.fsb_trace.proofs.Interface.{line_at-agree, request_at-agree, winner_at-agree, AgreeTo-sym}
pub use Rattle.fsb_trace.proofs.Interface.{live_below_count, live_request_of-stays, response_clock_of-stays}
pub use Rattle.fsb_trace.proofs.Interface.{snoop_end_of-clock, snoop_end_of-stays, live_clock_of-rises, end_of-response}
pub use Rattle.fsb_trace.proofs.Interface.{end_of-stays, live_clock_of-number, live_clock_of-stays, snoop_end_of-rises}
pub use Rattle.fsb_agent_view.specs.AgentViews.{AgentView, is_finished_at, answer_by}
pub use Rattle.fsb_bench_view.specs.declared.decided.Ending.{Ending}
pub use Rattle.fsb_bench_view.specs.BenchSteps.{step_answered, step_cancelled, step_decided, step_ended, step_ending}
pub use Rattle.fsb_bench_view.specs.BenchSteps.{step_performed, step_started, bench_stepped, step_entries, step_run}
pub use Rattle.fsb_bench_view.specs.BenchSteps.{step_drive, step_fetched, step_snooped, was_held_at, step_queue}
pub use Rattle.fsb_bench_view.specs.BenchSteps.{step_sample, step_phased, outcome_snooped, step_begun, step_releases}
pub use Rattle.fsb_bench_view.specs.BusEvents.{bus_ended, end_event, ended_event, answered_by, bus_cancelled}
pub use Rattle.fsb_bench_view.specs.BusEvents.{bus_snooped, bus_started, cancelled_event, snooped_event, starting_event}
pub use Rattle.fsb_bench_view.specs.BusEvents.{bus_answered, end_entries, entries_ended, ending_by, entry_started}
pub use Rattle.fsb_bench_view.specs.BusEvents.{heard_answer, heard_cancel, heard_entries, heard_snoop, heard_start}
pub use Rattle.fsb_bench_view.specs.BusEvents.{entries_of_event, waiting_cancelled, waiting_started, waiting_snooped}
pub use Rattle.fsb_bench_view.specs.BusViews.{BenchView, BusView, next_clock_of}
pub use Rattle.fsb_agent_run.specs.BytesOwed.{HasBytesOwed}
unfoldable pub use Rattle.fsb_agent_run.specs.BytesOwed.{is_given_below, is_pushed}
pub use Rattle.fsb_agent_run.specs.Ending.{EndsFor, NothingEndsFor}
unfoldable pub use Rattle.fsb_agent_run.specs.Ending.{number_claimed, number_left, number_replied}
unfoldable pub use Rattle.fsb_agent_run.specs.EventsSeen.{may_see, may_see_all}
pub use Rattle.fsb_agent_run.specs.Stages.{IsViewAfterSnoop, IsViewOf, IsViewBeforeSnoop, IsViewAfterHit}
pub use Rattle.fsb_agent_run.specs.Stages.{IsViewAfterSent}
pub use Rattle.fsb_agent_run.proofs.Interface.{arrives-seen, given-up-seen, given-up-view, line-owed, line-view}
pub use Rattle.fsb_agent_run.proofs.Interface.{quiet-end-view, upgrade-owed, upgrade-seen, upgrade-view, answer-by}
pub use Rattle.fsb_agent_run.proofs.Interface.{claimed-out, kept-at-response, other-claimed-owed, owed-grown}
pub use Rattle.fsb_agent_run.proofs.Interface.{own-owed-then, replied-out, unsettled-owed-after, cancelled-seen}
pub use Rattle.fsb_agent_run.proofs.Interface.{other-may, own-seen, send-may, sound-all, no-arrival, nothing-granted}
pub use Rattle.fsb_agent_run.proofs.Interface.{locked-by, want-by, cancelled-all, sent-all, own-left, replied-left}
pub use Rattle.fsb_agent_run.proofs.Interface.{served-number, given-named, hit-by, placed-at, first-of, first-owed}
pub use Rattle.fsb_agent_run.proofs.Interface.{performed-logged, handed-owed, IsSettledAs, arrived-entries, settled-as}
pub use Rattle.fsb_agent_run.proofs.Interface.{ungranted, ungranted-arrival, upgrade-entries, other-claimed}
pub use Rattle.fsb_agent_run.proofs.Interface.{other-replied, own-claimed, own-replied, quiet-view}
pub use Rattle.fsb_agent_view.specs.AgentEvents.{AgentEvent, Arrived, GivenUp, UpgradeEnded, agent_after, HandedOn}
pub use Rattle.fsb_agent_view.specs.AgentEvents.{Performed, Committed, Sent}
pub use Rattle.fsb_agent_view.specs.Arriving.{given_up, line_arrived, upgrade_ended, handed_on, may_arrive, may_give_up}
pub use Rattle.fsb_agent_view.specs.Arriving.{met_entries, is_arrival_by, with_bytes, arrived_entries}
pub use Rattle.fsb_agent_view.specs.Sound.{IsSound}
pub use Rattle.fsb_hazard.specs.declared.choice.Choice.{Choice}
pub use Rattle.fsb_run_laws.specs.Reaches.{Reaches}
unfoldable pub use Rattle.fsb_timely.specs.Moments.{is_got, cancelled_at, claim_at, agent_at, turns_in, number_of_turn}
unfoldable pub use Rattle.fsb_timely.specs.Moments.{served_number, choice_at, is_in_window, moment_at, responded_at}
unfoldable pub use Rattle.fsb_timely.specs.Moments.{retried_at, begun_with, gives_line, grant_of, is_unsnooped}
unfoldable pub use Rattle.fsb_timely.specs.Moments.{owing_at, owing_for, snoop_at, snoop_end_for, snoop_end_if_begun}
unfoldable pub use Rattle.fsb_timely.specs.Moments.{snoop_end_with, wins_race, is_snoop_of, is_snooped_in, makes_grant}
unfoldable pub use Rattle.fsb_timely.specs.Moments.{grant_for, grant_to, is_answered_by, is_owner_request, is_shared_at}
unfoldable pub use Rattle.fsb_timely.specs.Moments.{effective_choice}
pub use Rattle.fsb_timely.specs.Past.{Past, SnoopEnd, Claim, Grant, Moment, Owing}
unfoldable pub use Rattle.fsb_trace.specs.Outcome.{is_deferral, is_settled_deferred, response_clock_of}
unfoldable pub use Rattle.fsb_trace.specs.Outcome.{settled_outcome_of, response_code_of, outcome_by_kind}
pub use Rattle.fsb_trace.specs.declared.outcome.Outcome.{Outcome}
pub use Rattle.fsb_trace.specs.declared.outcome.Outcome.TheVariants.{Granted, Handed, Retried, Deferred, Written}
pub use Rattle.fsb_trace.specs.declared.outcome.Outcome.TheVariants.{Replied, Failed, Upgraded}
pub use Rattle.fsb_bench_view.specs.declared.snoop.Served.{Served}
pub use Rattle.fsb_access.specs.declared.log.Done.{Done}
pub use Rattle.fsb_bench_view.specs.declared.decided.BytesFrom.{BytesFrom}
pub use Rattle.fsb_bench_view.specs.BytesFetched.{bus_fetched, bytes_source, head_outcome, from_for, data_driven}
pub use Rattle.fsb_bench_view.specs.ToldAgents.{agents_told, for_all, hit_entries}
unfoldable pub use Rattle.fsb_agent_run.specs.AgentClocks.{number_asked, cancelled_events, given_up_events, sent_events}
unfoldable pub use Rattle.fsb_agent_run.specs.AgentClocks.{giver_after_snoop, giver_of}
pub use Rattle.fsb_agent_view.specs.Snooping.{committed, may_commit}
pub use Rattle.fsb_encode.specs.declared.request.Request.{Request}
pub use Rattle.fsb_queue.specs.declared.entry.Entry.{Entry}
pub use Rattle.fsb_run_laws.proofs.Interface.{replied-on, ending-served, ending-serves, replied-outstanding}
pub use Rattle.fsb_run_laws.proofs.Interface.{replied-served, snoop-below, begun-wanted, owed-told}
unfoldable pub use Rattle.fsb_timely.specs.Grants.{snooped_at, begun_at, is_end_at, ended_requests, is_ended, grant_at}
unfoldable pub use Rattle.fsb_timely.specs.Grants.{has_arrived, holds_line, is_evicted, is_exclusive, is_granted}
unfoldable pub use Rattle.fsb_timely.specs.Grants.{is_lost, is_named_by_other, is_rival, is_taken_away, is_written_back}
unfoldable pub use Rattle.fsb_timely.specs.Grants.{latest_grant, set_of, is_claim_of_other}
pub use Rattle.fsb_bench_view.specs.declared.beginning.Starting.{Starting}
pub use Rattle.fsb_bench_view.specs.declared.snoop.SnoopSettled.{SnoopSettled}
pub use Rattle.fsb_agent_view.proofs.Interface.{sound_handed, sound_first, list_all-found}
unfoldable pub use Rattle.fsb_coherent.specs.Awaits.{cancelled_in, snoop_end_below, responded_in}
pub use Rattle.fsb_bench_view.specs.declared.decided.BytesFrom.TheVariants.{Memory, Agents}
pub use Rattle.fsb_agent_view.specs.Completing.{performed, completed_entries, hand_of, is_hit_by, next_steps}
pub use Rattle.fsb_agent_view.specs.Completing.{performed_entries, steps_at}
pub use Rattle.fsb_timely.specs.Completions.{Completed}
unfoldable pub use Rattle.fsb_timely.specs.Completions.{is_arrival, completed_if, completed_of_item, completes_by}
unfoldable pub use Rattle.fsb_timely.specs.Completions.{is_brought, is_there, next_accesses, of_all_agents}
unfoldable pub use Rattle.fsb_timely.specs.Completions.{completed_at, entries_at, logs_completions, are_completed}
unfoldable pub use Rattle.fsb_timely.specs.Completions.{is_access, is_completed, is_in_time, is_operand, brings_at}
unfoldable pub use Rattle.fsb_timely.specs.Hits.{is_hit, is_store_on, is_met, is_dirty}
unfoldable pub use Rattle.fsb_count.specs.Options.{is_some_and, is_before, is_at}
pub use Rattle.fsb_timely.specs.Scripts.{Need}
unfoldable pub use Rattle.fsb_timely.specs.Scripts.{needs_of, items_of, next_item, next_number, is_done_at, idle_start}
unfoldable pub use Rattle.fsb_timely.specs.Scripts.{is_done_by, is_logged, last_done, number_after, is_idle}
unfoldable pub use Rattle.fsb_timely.specs.Scripts.{is_logged_at, is_to_do, is_idling, locked_need, needs_after}
unfoldable pub use Rattle.fsb_timely.specs.Scripts.{needs_from, plain_items, plain_need, window, window_at, window_from}
pub use Rattle.fsb_timely.specs.Timely.{Timely, Part, IsTimelyAt}
unfoldable pub use Rattle.fsb_timely.specs.Timely.{holds_at, holds_in}
pub use Rattle.fsb_timely.proofs.Interface.{is_hit-alike, is_idling-alike, moments-grow, next_item-alike}
pub use Rattle.fsb_timely.proofs.Interface.{next_number-alike, past-goes_on, begun-told, cancelled-told, run_to-agrees}
pub use Rattle.fsb_timely.proofs.Interface.{past-same, snoop-tied, going-alike, owed-same, last-same, last_where-found}
pub use Rattle.fsb_timely.proofs.Interface.{Alike, done_below, holds_line-same, is_exclusive-same, latest_grant-same}
pub use Rattle.fsb_timely.proofs.Interface.{want_of-alike, at, last_where-from, not-behind, length-moments, moment-at}
pub use Rattle.fsb_timely.proofs.Interface.{below_le, past-begins, tied-snoop, run-ends, number-found, find-passes}
pub use Rattle.fsb_timely.proofs.Interface.{claim_at-agree, timely-more, moment-snooped, snoop_of, snooped-there}
pub use Rattle.fsb_timely.proofs.Interface.{holds_line-says, is_met-alike, timely-want-stays, window-alike}
pub use Rattle.fsb_lawful.proofs.Interface.{get-there, want-own, begun-decoded, begun_of, wants-lawfully, orderly-at}
pub use Rattle.fsb_lawful.proofs.Interface.{all-at, length-cut, and-then, IsGrantedBy, granted-by, live-ads}
pub use Rattle.fsb_tied.proofs.Interface.{winner-four, ended-number, live-at, orderly-whole, begun-shown, begun-want}
pub use Rattle.fsb_tied.proofs.Interface.{deferred-held, held-plain, live-request, number-ended, snooped-by, answered}
pub use Rattle.fsb_tied.proofs.Interface.{ended-before, one-ends, responded-number, IsPutOff, reply-grants, a-victim}
pub use Rattle.fsb_tied.proofs.Interface.{dirty-held}
pub use Rattle.fsb_agent_view.specs.declared.want.Want.{Want}
pub use Rattle.fsb_bridge.specs.DeferralList.{IsThatOf, IsDeferralOf}
unfoldable pub use Rattle.fsb_bridge.specs.DeferralList.{request_number_of}
pub use Rattle.fsb_bridge.specs.Deferrals.{Bridged, due_deferral, deferral_of_id, is_waited_for, is_covered}
pub use Rattle.fsb_bridge.specs.Deferrals.{new_waiting, waiting_without}
pub use Rattle.fsb_bridge_run.specs.RunDeferrals.{ShowsBegun, HasDeferrals}
pub use Rattle.fsb_bridge_run.proofs.Interface.{grown-due, shows-second, leaves-list, list-grown, grown-hit}
pub use Rattle.fsb_bridge_run.proofs.Interface.{grown-pending, grown-taken, grown-there, IsDeferredAt, list-first}
pub use Rattle.fsb_bridge_run.proofs.Interface.{deferred-at, grown-room, reply-shown}
unfoldable pub use Rattle.fsb_encode.specs.Request.{pairs_of, is_lawful_request, are_lawful_fields, clocks, den_bit}
unfoldable pub use Rattle.fsb_encode.specs.Request.{high_bit, row_of}
unfoldable pub use Rattle.fsb_timely.specs.BusLock.{wants_lock, ends_locked_item, is_begun_by, is_lock_cancelled}
unfoldable pub use Rattle.fsb_timely.specs.BusLock.{is_lock_retried, is_locked_request, is_release, keeps_lock}
unfoldable pub use Rattle.fsb_timely.specs.BusLock.{drives_lock, is_released_before}
unfoldable pub use Rattle.fsb_timely.specs.Starts.{due_number, asks_for_bus, asks_for_priority, began_before}
unfoldable pub use Rattle.fsb_timely.specs.Starts.{drives_request_lines, reply_before, reply_to, would_begin}
unfoldable pub use Rattle.fsb_timely.specs.Starts.{request_begun, drives_ads, has_room, may_begin, starts_requests}
unfoldable pub use Rattle.fsb_timely.specs.Starts.{drives_pair, pair_due, no_pair, request_begun_before, is_spaced}
unfoldable pub use Rattle.fsb_timely.specs.Starts.{has_free_winner, is_kept_back}
unfoldable pub use Rattle.fsb_timely.specs.Wants.{want_of, outstanding_at, owed, is_open_to_other, unsnooped_at}
unfoldable pub use Rattle.fsb_timely.specs.Wants.{is_held_back, is_missing, request_of_kind, victim_of, want_for}
unfoldable pub use Rattle.fsb_timely.specs.Wants.{write_back_of, is_asked_for, is_same_set, is_set_taken}
pub use Rattle.fsb_trace.specs.declared.who.Who.{Who}
pub use Rattle.fsb_bench_view.specs.declared.beginning.Latest.{Latest}
pub use Rattle.fsb_bench_view.specs.BusDecisions.{want_at, is_cancelled_by, asked_by}
pub use Rattle.fsb_bench_view.specs.BusSample.{pair_driven, began_by, is_asking, is_bridge_asking, is_same_who}
pub use Rattle.fsb_bench_view.specs.BusSample.{bits_driven, bits_of, drive_bits, is_lock_driven, parity_bits}
pub use Rattle.fsb_bench_view.specs.BusSample.{request_bits, sample_by}
pub use Rattle.fsb_bench_view.specs.BusStarting.{is_spaced_by, may_start, starting_for, want_in, is_of_other}
pub use Rattle.fsb_bench_view.specs.BusStarting.{is_open_of_other, is_kept_from, starting_by, starting_reply}
pub use Rattle.fsb_bench_view.specs.BusStarting.{starting_want}
pub use Rattle.fsb_bridge.specs.declared.deferral.Deferral.{Deferral}
pub use Rattle.fsb_lawful.specs.Beginning.{KeepsBounds}
pub use Rattle.fsb_trace.specs.At.{Trace}
unfoldable pub use Rattle.fsb_trace.specs.At.{line_back, request_at, stalls_at, responds_at, response_code_at}
unfoldable pub use Rattle.fsb_trace.specs.At.{known_pair_at, known_pair}
unfoldable pub use Rattle.fsb_trace.specs.Requests.{is_reply, is_reply_kind, have_same_id, is_cancelled, is_live}
unfoldable pub use Rattle.fsb_trace.specs.Requests.{live_count, live_clock_of, live_number_of, live_request_of, line_of}
unfoldable pub use Rattle.fsb_trace.specs.Requests.{is_write_back_kind}
pub use Rattle.fsb_trace.specs.Winner.{Requesters}
unfoldable pub use Rattle.fsb_trace.specs.Winner.{begins_at, bus_request_of, is_agent, is_same_agent, winner_at}
unfoldable pub use Rattle.fsb_trace.specs.Winner.{request_line_of, agent_in_order, asks_in_order, first_asking}
unfoldable pub use Rattle.fsb_trace.specs.Winner.{first_in_order, last_if_asking, requesters_before, winner_after}
unfoldable pub use Rattle.fsb_trace.specs.Winner.{winner_by}
pub use Rattle.fsb_trace.specs.declared.who.Who.TheVariants.{Symmetric, Priority}
pub use Rattle.fsb_laws.proofs.Interface.{is_live-ads, line_at-new, one_more, ads_before_end, in_flight-more}
pub use Rattle.fsb_laws.proofs.Interface.{in_flight-now, orderly-empty, is_snoop_clock-more, line_at-old}
pub use Rattle.fsb_laws.proofs.Interface.{is_in_flight-end, response_code_at-new}
pub use Rattle.fsb_phase.proofs.Interface.{find-cases, find-off, find-place, not_reached_from, Found, Placed}
pub use Rattle.fsb_phase.proofs.Interface.{ends_entry, has_snoop-at, held, outcome_reached, reached_before}
pub use Rattle.fsb_phase.proofs.Interface.{snoop_elsewhere}
unfoldable pub use Rattle.fsb_bridge_run.specs.DeferralSteps.{after_cancellation, after_clock, after_reply}
unfoldable pub use Rattle.fsb_bridge_run.specs.DeferralSteps.{after_response, after_snoop_end, reply_begun}
unfoldable pub use Rattle.fsb_bridge_run.specs.DeferralSteps.{was_deferred, after_snoop_end_of, deferral_made}
pub use Rattle.fsb_bench_view.specs.MaySteps.{MayCancel, MayEnd, may_end_with, MayStep, HasFlightOf, MaySample}
pub use Rattle.fsb_bench_view.specs.MaySteps.{MaySnoop, MayStart, HasLawfulWords}
unfoldable pub use Rattle.fsb_trace.specs.Deferral.{is_pending, answers, due_at, is_answered, is_due, later_of}
unfoldable pub use Rattle.fsb_timely.specs.Snoops.{number_served_at, was_hit_before, is_keep, drives_aerr, drives_bnr}
unfoldable pub use Rattle.fsb_timely.specs.Snoops.{drives_defer, drives_hazards, drives_stalls, is_bnr_chosen}
unfoldable pub use Rattle.fsb_timely.specs.Snoops.{is_error_chosen, is_put_off, is_stall_chosen, keeps_snoop_lines}
unfoldable pub use Rattle.fsb_timely.specs.Snoops.{is_dirty_elsewhere, is_held_elsewhere, has_right_result}
unfoldable pub use Rattle.fsb_timely.specs.Snoops.{has_snoop_result, is_dirty_for, is_held_for, is_reply_end}
pub use Rattle.fsb_encode.specs.declared.request.Pair.{Pair}
pub use Rattle.fsb_signal.specs.declared.lines.Lines.{Lines}
pub use Rattle.fsb_bench_view.specs.declared.decided.Decided.{Decided}
pub use Rattle.fsb_signal.proofs.Interface.{line_at-past, slice_get-before}
unfoldable pub use Rattle.fsb_timely.specs.Transfers.{settled_of, code_due, drives_code, drives_data_busy}
unfoldable pub use Rattle.fsb_timely.specs.Transfers.{drives_data_ready, drives_ready, drives_responses, has_data_at}
unfoldable pub use Rattle.fsb_timely.specs.Transfers.{is_busy_at, is_ready_due, keeps_data_quiet}
unfoldable pub use Rattle.fsb_trace.specs.Flight.{has_ended, is_dropped, is_in_flight, is_reply_to, in_flight}
unfoldable pub use Rattle.fsb_trace.specs.Flight.{is_outstanding, outstanding, reply_number_of}
unfoldable pub use Rattle.fsb_trace.specs.Snoop.{snoop_end_of, is_every_second_from, is_snoop_clock, snoop_start_of}
unfoldable pub use Rattle.fsb_phase.specs.Drive.{has_end_at, phased_at, drive_of, settled_code, ends_snoop_at}
pub use Rattle.fsb_phase_run.specs.Holds.{HoldsRequests, AreRequestsOf}
pub use Rattle.fsb_timely.specs.Tied.{IsSnoopOf}
pub use Rattle.fsb_bench_view.specs.FirstBench.{is_named_line, first_agent, first_agents, first_bench}
pub use Rattle.fsb_phase.specs.Due.{rank_of}
unfoldable pub use Rattle.fsb_phase.specs.Due.{has_response, has_snoop, is_stalled}
unfoldable pub use Rattle.fsb_trace.specs.Response.{end_of, answer_from, ready_clock_of}
pub use Rattle.fsb_flight.specs.GoesOn.{IsLater, TakesTurn}
unfoldable pub use Rattle.fsb_flight.specs.GoesOn.{goes_on, settles, stays_in_flight}
unfoldable pub use Rattle.fsb_flight.specs.Steps.{begun_list}
pub use Rattle.fsb_flight.proofs.Interface.{append_from, filter_from, map_from, goes_on-holds, rising-goes_on}
pub use Rattle.fsb_signal.specs.declared.sample.Sample.{Sample}
pub use Rattle.fsb_access.specs.declared.item.Item.{Item}
pub use Rattle.fsb_access.specs.ScriptOrder.{Step, step_of, script_of, steps_from, steps_of, steps_of_item}
pub use Rattle.fsb_agent_view.specs.Serving.{AtHand, entries_at_hand, hand_after}
pub use Rattle.fsb_agent_run.specs.RunViews.{place_of, IsPlacedIn, one_if, owing_by, state_told, LogsItem}
unfoldable pub use Rattle.fsb_agent_run.specs.RunViews.{is_awaited, is_won_below}
unfoldable pub use Rattle.fsb_coherent.specs.Relation.{giver_at, is_dirty_below, is_stored_below}
pub use Rattle.fsb_phase.specs.declared.drive.Drive.{Drive}
unfoldable pub use Rattle.fsb_laws.specs.Leaving.{leaves}
pub use Rattle.fsb_laws.specs.OneMore.{OneMore}
unfoldable pub use Rattle.fsb_laws.specs.OneMore.{stalls, cancels}
pub use Rattle.fsb_laws.specs.Orderly.{Orderly, Spaced}
pub use Rattle.fsb_agent_view.specs.declared.want.OwnRequest.{OwnRequest}
pub use Rattle.fsb_script.specs.Bounds.{is_cache, is_lawful_item}
unfoldable pub use Rattle.fsb_script.specs.Bounds.{is_lawful_script, is_lock_size}
pub use Rattle.fsb_script.specs.Plans.{PlanView}
unfoldable pub use Rattle.fsb_run_laws.specs.RunSteps.{owing_begun}
pub use Rattle.fsb_hazard.specs.Choice.{effective_turn, is_never_held_up}
unfoldable pub use Rattle.fsb_laws.specs.Progress.{is_snoop_due, response_count, transfer_of}
unfoldable pub use Rattle.fsb_heads.specs.Heads.{snooped_count, last_snoop_end}
pub use Rattle.fsb_heads.proofs.Interface.{snoops_to}
pub use Rattle.fsb_bench_view.specs.BusSnooping.{snooped_entry, snooped_for, turn_counted, answer_besides}
pub use Rattle.fsb_bench_view.specs.BusSnooping.{is_hit_answer, is_modified_answer, stronger, first_open, snooping_by}
pub use Rattle.fsb_bench_view.specs.BusSnooping.{snooped_reply, snooping_of, snoop_outcome}
pub use Rattle.fsb_access.specs.declared.access.Access.{Access}
pub use Rattle.fsb_access.specs.declared.item.Item.TheVariants.{One, Locked, Idle}
pub use Rattle.fsb_coherent.proofs.Interface.{any-from, any-there, some-there, outcome-made}
pub use Rattle.fsb_bench_view.specs.declared.beginning.Started.{Started}
pub use Rattle.fsb_bench_view.specs.BusLocking.{completes_lock, is_locked_of, is_locked_start, is_locking, is_of}
pub use Rattle.fsb_bench_view.specs.BusLocking.{is_released, is_retry, keeps_after, keeps_in, retried_by}
pub use Rattle.fsb_phase.specs.FitQueue.{HoldsInFlight}
unfoldable pub use Rattle.fsb_phase.specs.FitQueue.{is_too_soon}
pub use Rattle.fsb_hazard.specs.declared.choice.Turn.{Turn}
pub use Rattle.fsb_hazard.specs.declared.choice.Turn.TheVariants.{Keep, Defer}
pub use Rattle.fsb_bridge.specs.declared.deferral.Waiting.{Waiting}
pub use Rattle.fsb_bench_run.specs.BenchOf.{IsBenchOf, HasAgentsOf, IsBegunAt, IsLatestOf, HasBridgeOf, HasServed}
pub use Rattle.fsb_bench_run.specs.BenchOf.{IsServed, settled_entries, HasBegun, IsAgentNext, clock_served, HasStarted}
pub use Rattle.fsb_bench_run.specs.HitsTold.{HasHitsOf}
pub use Rattle.fsb_bench_run.specs.LocksHeld.{kept_into}
unfoldable pub use Rattle.fsb_bench_run.specs.LocksHeld.{keeps_into}
