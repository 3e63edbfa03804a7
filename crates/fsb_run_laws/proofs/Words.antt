-- The words and lemmas of the crates below that the proofs of this crate cite, passed on in one place.

pub use Rattle.std.proofs.Common.{ℕ, ◌+◌, ◌<◌, ◌≤◌, ◌≡◌, Bool, Some, length, refl, sym, ap, ◌∙◌, arith, true, not, ◌&&◌}
pub use Rattle.std.proofs.Common.{◌||◌, None, nat_eq, ◌⊎◌, false, List, [], ◌∷◌, Option, slice_get, inl, inr, zero, suc}
pub use Rattle.std.proofs.Common.{nat_lt, subst, if◌then◌else◌, ◌++◌, add-one, append-nil}
pub use Rattle.std.specs.List.{list_any, list_all, filter, filter_map}
pub use Rattle.std.specs.Option.{option_and_then, option_map_or, option_map}
pub use Rattle.std.proofs.lemmas.Bool.{and_from, and_parts, eq-eqb, both_ways, cases_Bool, eqb-true, false_from_ne_true}
pub use Rattle.std.proofs.lemmas.Bool.{ltb-true, or_parts, cases_lt, lt-ltb, or_cases, or_left, or_right, le-ltb}
pub use Rattle.fsb_signal.specs.declared.lines.TheConstants.Lines.{ADS, AERR}
unfoldable pub use Rattle.fsb_signal.specs.Samples.{line_at}
pub use Rattle.fsb_trace.specs.At.{Trace}
unfoldable pub use Rattle.fsb_trace.specs.At.{request_at, response_code_at}
unfoldable pub use Rattle.fsb_timely.specs.Moments.{begun_with, moment_at, owing_for, grant_to, is_snoop_of, claim_at}
unfoldable pub use Rattle.fsb_timely.specs.Moments.{is_owner_request, served_number, turns_in, is_snooped_in}
unfoldable pub use Rattle.fsb_timely.specs.Moments.{is_unsnooped, requests_ending_at, responded_at, retried_at}
unfoldable pub use Rattle.fsb_timely.specs.Moments.{number_of_turn}
pub use Rattle.fsb_timely.specs.Past.{Owing, Past, Grant, SnoopEnd, Claim, Moment}
pub use Rattle.fsb_timely.specs.Runs.{past_with, Run}
unfoldable pub use Rattle.fsb_timely.specs.Runs.{moments_below, past_of, run_to}
unfoldable pub use Rattle.fsb_timely.specs.Wants.{free_id, owed, want_of, is_same_set, victim_of, unsnooped_at}
unfoldable pub use Rattle.fsb_timely.specs.Wants.{outstanding_at, is_asked_for}
pub use Rattle.fsb_timely.proofs.Interface.{Alike, moment-at, owed-same, at, logged-next, logs-item, steps-completed}
pub use Rattle.fsb_timely.proofs.Interface.{holds_line-more, is_exclusive-more, done-same, last-same, last_where-found}
pub use Rattle.fsb_timely.proofs.Interface.{last_where-from, one_end, snoop-tied, tied-snoop, done-before, done-now}
pub use Rattle.fsb_timely.proofs.Interface.{is_logged-more, next_number-same, not-behind, begun-told, claim_at-agree}
pub use Rattle.fsb_timely.proofs.Interface.{moment_of, snooped-there, is_outstanding-more, length-moments, moments-grow}
pub use Rattle.fsb_timely.proofs.Interface.{turns-quiet, turns-snooped}
pub use Rattle.fsb_lawful.proofs.Interface.{want-few, and-then, some-and, all-at, run_to-agrees, told-as-settled}
pub use Rattle.fsb_lawful.proofs.Interface.{turned-at, wants-lawfully, length-cut, orderly-at, outstanding-of, IsListed}
pub use Rattle.fsb_lawful.proofs.Interface.{any-kept, any-listed, map-some}
pub use Rattle.fsb_tied.proofs.Interface.{begun-want, answers-in-order, any-of, clock-facts, grant-first, granted-parts}
pub use Rattle.fsb_tied.proofs.Interface.{is-found, none-before, reply-end-at, a-victim, dirty-held, no-victim}
pub use Rattle.fsb_tied.proofs.Interface.{one-slot, rival-sym, has-reply, live-at, reply-stays, ended-before}
pub use Rattle.fsb_tied.proofs.Interface.{number-put, number-stays, orderly-whole, takes_line, IsSnooped, answered}
pub use Rattle.fsb_tied.proofs.Interface.{cancelled-at, cancels, claimed, ended-number, number-ended, snooped-by}
pub use Rattle.fsb_tied.proofs.Interface.{IsPutOff, live-request, reply-grants, cancelled-below, end-below}
pub use Rattle.fsb_tied.proofs.Interface.{ended-snooped, uncancelled-below, unsnooped-below, begun-shown}
pub use Rattle.fsb_tied.proofs.Interface.{claim-no-reply, owing-gives, same-both, any-in, begun-apart, Ends, Responds}
pub use Rattle.fsb_tied.proofs.Interface.{number-responded, one-at-end, one-ends, one-listed, responded-from}
pub use Rattle.fsb_tied.proofs.Interface.{responded-number, responded-parts}
unfoldable pub use Rattle.fsb_count.specs.Clocks.{first_where, all_where, any_where}
unfoldable pub use Rattle.fsb_count.specs.Options.{is_some_and, is_before, is_at}
pub use Rattle.fsb_count.proofs.Interface.{any_where-at, any_where-found, first_where-at, first_where-found}
pub use Rattle.fsb_count.proofs.Interface.{nat_lt-more, is_before-parts, is_before-from, is_at-from, is_at-some}
pub use Rattle.fsb_count.proofs.Interface.{first_where-same, any_where-more, nth_where-at, slice_get-end}
unfoldable pub use Rattle.fsb_timely.specs.Completions.{brings_at, is_brought, is_arrival, is_in_time}
unfoldable pub use Rattle.fsb_timely.specs.Grants.{ended_requests, grant_at, is_end_at, is_granted, snooped_at}
unfoldable pub use Rattle.fsb_timely.specs.Grants.{is_rival, is_ended, is_sole_grant, begun_at, holds_line, is_evicted}
unfoldable pub use Rattle.fsb_timely.specs.Grants.{is_exclusive, is_lost, is_named_by_other, is_taken_away}
unfoldable pub use Rattle.fsb_timely.specs.Grants.{is_written_back, latest_grant, set_of}
pub use Rattle.fsb_timely.specs.Scripts.{Need}
unfoldable pub use Rattle.fsb_timely.specs.Scripts.{completes_at, is_done_at, is_idle, is_to_do, items_of, next_item}
unfoldable pub use Rattle.fsb_timely.specs.Scripts.{next_number, is_done_by, is_logged_at, last_done, idle_clocks}
unfoldable pub use Rattle.fsb_timely.specs.Scripts.{idle_start, is_idling, is_logged, number_after}
unfoldable pub use Rattle.fsb_coherent.specs.Awaits.{snoop_end_below, cancelled_in, responded_in}
pub use Rattle.fsb_coherent.specs.Facts.{IsRepliedOn, ClockFacts}
pub use Rattle.fsb_coherent.proofs.Interface.{any-from, any-there, dirty-more, ended-later, granted-now, stored-parts}
pub use Rattle.fsb_coherent.proofs.Interface.{some-there, dirty-by-hits}
pub use Rattle.fsb_access.specs.declared.item.Item.{Item}
pub use Rattle.fsb_access.specs.declared.log.Done.{Done}
pub use Rattle.fsb_access.specs.ScriptOrder.{script_of, steps_of, Step, steps_from, steps_of_item}
pub use Rattle.fsb_script.specs.Bounds.{is_lawful_item}
unfoldable pub use Rattle.fsb_script.specs.Bounds.{is_lawful_script, is_lock_size}
unfoldable pub use Rattle.fsb_timely.specs.Hits.{is_hit, is_dirty, is_store_on, line_state_of}
unfoldable pub use Rattle.fsb_coherent.specs.Relation.{is_dirtying, is_stored_below, is_dirty_below, is_dirty_through}
unfoldable pub use Rattle.fsb_coherent.specs.Relation.{is_cancelled_below, is_snooped_below}
pub use Rattle.fsb_trace.specs.Agree.{AgreeTo}
unfoldable pub use Rattle.fsb_trace.specs.Flight.{is_finished, last_clock_of, reply_end_of, reply_number_of, is_dropped}
unfoldable pub use Rattle.fsb_trace.specs.Flight.{is_outstanding, has_ended, in_flight, is_in_flight, outstanding}
unfoldable pub use Rattle.fsb_trace.specs.Outcome.{is_deferred, response_clock_of, is_deferral, response_code_of}
unfoldable pub use Rattle.fsb_trace.specs.Requests.{is_live, live_clock_of, live_number_of, is_cancelled, is_reply}
unfoldable pub use Rattle.fsb_trace.specs.Requests.{live_count}
unfoldable pub use Rattle.fsb_trace.specs.Response.{end_of}
unfoldable pub use Rattle.fsb_trace.specs.Snoop.{snoop_end_of}
pub use Rattle.fsb_trace.proofs.Interface.{end_of-response, end_of-stays, is_deferred-stays, is_live-agree}
pub use Rattle.fsb_trace.proofs.Interface.{live_clock_of-number, live_clock_of-stays, live_below_count, AgreeTo-sym}
pub use Rattle.fsb_trace.proofs.Interface.{response_clock_of-stays, snoop_end_of-stays, line_at-agree}
pub use Rattle.fsb_trace.proofs.Interface.{response_code_at-agree}
pub use Rattle.fsb_laws.specs.Orderly.{Orderly}
pub use Rattle.fsb_laws.proofs.Interface.{deferred_response, end_after_clock, has_answer, last_clock_of-deferred}
pub use Rattle.fsb_laws.proofs.Interface.{last_clock_of-plain, request_at-last}
pub use Rattle.fsb_timely.specs.Timely.{Timely}
pub use Rattle.fsb_timely.specs.Growth.{GrowsTo}
unfoldable pub use Rattle.fsb_timely.specs.Growth.{is_last_clock, moment_at_growth}
pub use Rattle.fsb_run_laws.specs.Reaches.{Reaches}
unfoldable pub use Rattle.fsb_run_laws.specs.RunSteps.{owing_begun, listed, is_behind, next_behind, is_open_below}
unfoldable pub use Rattle.fsb_run_laws.specs.RunSteps.{open_claims, stays_open, ends_claim, ends_for, stays_owed}
unfoldable pub use Rattle.fsb_run_laws.specs.RunSteps.{retried_in}
unfoldable pub use Rattle.fsb_run_laws.specs.RunStates.{state_below, state_of_tests, state_granted, state_read}
unfoldable pub use Rattle.fsb_run_laws.specs.RunStates.{state_stored, state_through, stores_at}
