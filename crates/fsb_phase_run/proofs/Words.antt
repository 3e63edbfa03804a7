-- The words and lemmas of the crates below that the proofs of this crate cite, passed on in one place.

pub use Rattle.std.proofs.Common.{ℕ, ◌+◌, ◌<◌, ◌≡◌, Bool, true, false, ◌&&◌, Option, Some, None, List, length, is_none}
pub use Rattle.std.proofs.Common.{refl, sym, ap, ◌∙◌, arith, inl, inr, subst, is_some, not, nat_eq, [], ◌-◌, zero, suc}
pub use Rattle.std.proofs.Common.{◌≤◌, ◌∷◌, ◌++◌, slice_index, ◌*◌, if◌then◌else◌, nat_le, nat_lt, ◌||◌, take, map, ◌/◌}
pub use Rattle.std.proofs.Common.{◌%◌}
pub use Rattle.std.specs.List.{slice_get, find, list_any}
pub use Rattle.std.specs.Option.{option_and_then, option_map, option_map_or}
pub use Rattle.std.proofs.lemmas.Bool.{and_from, and_parts, both_ways, cases_Bool, eq-eqb, eqb-true, cases_lt}
pub use Rattle.std.proofs.lemmas.Bool.{and_right, ltb-true, le-leb, lt-ltb, leb-true}
pub use Rattle.std.proofs.lemmas.List.{length-append, get_or_past}
pub use Rattle.std.proofs.lemmas.Option.{slice_get-map}
pub use Rattle.fsb_count.proofs.Interface.{first_where-at, first_where-off, is_at-from, is_at-some, any_where-at}
pub use Rattle.fsb_count.proofs.Interface.{any_where-off, is_before-parts, nth_where-at, nth_where-found}
pub use Rattle.fsb_count.proofs.Interface.{count_where-above, count_where-same, is_before-none, count_where-passed}
pub use Rattle.fsb_count.proofs.Interface.{first_where-found, any_where-found, count_where-mono}
pub use Rattle.fsb_trace.specs.At.{Trace}
unfoldable pub use Rattle.fsb_trace.specs.At.{request_at, responds_at, response_code_at, stalls_at}
unfoldable pub use Rattle.fsb_trace.specs.Outcome.{response_clock_of, response_code_of, does_move, moves_data}
unfoldable pub use Rattle.fsb_trace.specs.Outcome.{settled_by, settled_outcome_of}
unfoldable pub use Rattle.fsb_trace.specs.Requests.{live_count, is_live, live_clock_of, live_number_of, is_write_back}
unfoldable pub use Rattle.fsb_trace.specs.Requests.{is_write_back_kind, live_request_of}
unfoldable pub use Rattle.fsb_trace.specs.Response.{answer_from, ready_clock_of, takes, end_of}
unfoldable pub use Rattle.fsb_trace.specs.Snoop.{snoop_end_of, ends_snoop, is_every_second_from, snoop_end_from}
unfoldable pub use Rattle.fsb_trace.specs.Snoop.{snoop_end_if, snoop_start_of, start_after_clock, start_after_end}
unfoldable pub use Rattle.fsb_trace.specs.Timing.{is_response_from, chunk_from, is_busy_from, is_ready_from}
unfoldable pub use Rattle.fsb_trace.specs.Timing.{is_stall_from}
pub use Rattle.fsb_trace.proofs.Interface.{live_below_count, snoop_end_of-clock, snoop_end_of-stays, end_of-response}
pub use Rattle.fsb_trace.proofs.Interface.{end_of-stays, live_clock_of-number, live_clock_of-stays, AgreeTo-sym}
pub use Rattle.fsb_trace.proofs.Interface.{line_at-agree, request_at-agree, snoop_end_of-rises, response_clock_of-stays}
pub use Rattle.fsb_trace.proofs.Interface.{breaks-16, end_of-moving, responds_at-agree, snoop_start_of-after}
pub use Rattle.fsb_trace.proofs.Interface.{stalls_at-agree}
pub use Rattle.fsb_queue.specs.declared.entry.Entry.{Entry}
pub use Rattle.fsb_phase.specs.Due.{rank_of, is_moving}
unfoldable pub use Rattle.fsb_phase.specs.Due.{has_response, due_chunk, keeps_busy, response_to_now, has_ready}
unfoldable pub use Rattle.fsb_phase.specs.Due.{has_snoop, is_stalled}
unfoldable pub use Rattle.fsb_phase.specs.Drive.{drive_of, settled_code, numbered_chunk, has_end_at, phased_at}
unfoldable pub use Rattle.fsb_phase.specs.Drive.{ends_snoop_at}
pub use Rattle.fsb_phase.proofs.Interface.{find-cases, find-off, find-place}
unfoldable pub use Rattle.fsb_timely.specs.Grants.{snooped_at, ended_requests, is_end_at}
pub use Rattle.fsb_timely.specs.Growth.{GrowsTo}
pub use Rattle.fsb_timely.specs.Runs.{Run}
unfoldable pub use Rattle.fsb_timely.specs.Runs.{past_of, requests_below, run_to, moments_below}
unfoldable pub use Rattle.fsb_timely.specs.Snoops.{live_choice, drives_aerr, drives_bnr, drives_defer, drives_hazards}
unfoldable pub use Rattle.fsb_timely.specs.Snoops.{drives_stalls, is_stall_chosen, keeps_snoop_lines}
unfoldable pub use Rattle.fsb_timely.specs.Transfers.{code_due, is_response_clock, number_responding, settled_of}
unfoldable pub use Rattle.fsb_timely.specs.Transfers.{has_data_at, is_busy_at, settles_to_move, is_ready_due}
pub use Rattle.fsb_timely.proofs.Interface.{run-ends, snoop-tied, moment-at, past-before, moment-snooped, moment_of}
pub use Rattle.fsb_timely.proofs.Interface.{snoop_of, snooped-there, tied-snoop, turns-quiet, turns-snooped}
pub use Rattle.fsb_lawful.proofs.Interface.{Responding, responding-answer, responding-now, responding-stays, any-from}
pub use Rattle.fsb_lawful.proofs.Interface.{any-listed, run_to-agrees, snooped-to, some-and, chunk-bounds, keeps-16}
pub use Rattle.fsb_lawful.proofs.Interface.{last-moves, length-cut, live_choice-same, orderly-at, past-cut, IsReadyDue}
pub use Rattle.fsb_lawful.proofs.Interface.{ready-answer, ready-now, ready-stays, answered-before, response-before}
pub use Rattle.fsb_lawful.proofs.Interface.{and5, same-beq, answered-next, one-ready, one-response, one_answer}
pub use Rattle.fsb_lawful.proofs.Interface.{ready-then, takes-stays}
unfoldable pub use Rattle.fsb_count.specs.Clocks.{any_where, count_where, nth_where, all_where, from_clock}
unfoldable pub use Rattle.fsb_count.specs.Options.{is_at, is_before, is_some_and, greater_of}
pub use Rattle.fsb_signal.specs.declared.lines.TheConstants.Lines.{ADS, DBSY, DRDY}
pub use Rattle.fsb_signal.specs.Samples.{response_of}
unfoldable pub use Rattle.fsb_signal.specs.Samples.{line_at}
pub use Rattle.fsb_laws.proofs.Interface.{ads_before_end, has_answer, is_live-ads, one_more, is_in_flight-end}
pub use Rattle.fsb_laws.proofs.Interface.{clear_parts, is_transferring-last, response_counted, response_there}
pub use Rattle.fsb_laws.proofs.Interface.{transferring_form, response_code_at-new, start_clock}
unfoldable pub use Rattle.fsb_timely.specs.Moments.{moment_at, requests_ending_at, choice_at, effective_choice}
unfoldable pub use Rattle.fsb_timely.specs.Moments.{number_of_turn, snoop_end_with, turns_in, responded_at, retried_at}
pub use Rattle.fsb_tied.proofs.Interface.{one-ends, live-request, responded-from}
pub use Rattle.fsb_hazard.specs.Choice.{quiet_choice, is_never_held_up}
pub use Rattle.fsb_trace.specs.Agree.{AgreeTo}
pub use Rattle.fsb_timely.specs.Past.{SnoopEnd, Past}
unfoldable pub use Rattle.fsb_trace.specs.Rules.{is_data_wrong, is_transferring, next_response}
pub use Rattle.fsb_timely.specs.Timely.{Timely}
unfoldable pub use Rattle.fsb_timely.specs.Timely.{holds_at, holds_in}
pub use Rattle.fsb_trace.specs.declared.outcome.Outcome.{Outcome}
pub use Rattle.fsb_trace.specs.declared.outcome.Outcome.TheVariants.{Retried, Granted, Handed, Deferred, Written}
pub use Rattle.fsb_trace.specs.declared.outcome.Outcome.TheVariants.{Replied, Failed, Upgraded}
pub use Rattle.fsb_phase_run.specs.Holds.{HoldsRequests, AreRequestsOf}
