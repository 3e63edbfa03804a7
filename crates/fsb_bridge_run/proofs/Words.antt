-- The words and lemmas of the crates below that the proofs of this crate cite, passed on in one place.

pub use Rattle.std.proofs.Common.{ℕ, ◌+◌, ◌<◌, ◌≤◌, ◌≡◌, Bool, true, cond, List, Option, Some, None, slice_index, sym}
pub use Rattle.std.proofs.Common.{ap, subst, ◌∙◌, arith, false, length, inl, map, nat_eq, refl, inr, suc, not, ◌&&◌}
pub use Rattle.std.proofs.Common.{nat_le, zero, ◌*◌, ◌/◌, ◌%◌, ◌||◌, [], ◌∷◌, if◌then◌else◌, ◌-◌, take, is_some, ◌≢◌}
pub use Rattle.std.proofs.Common.{◌++◌, add-zero, take-take, add-one, ◌⊎◌}
pub use Rattle.std.specs.Option.{option_and_then, option_map, option_map_or}
pub use Rattle.std.proofs.lemmas.Bool.{both_ways, false_from_ne_true, cases_Bool, eq-eqb, eqb-true, and_from, and_parts}
pub use Rattle.std.proofs.lemmas.Bool.{cases_lt, leb-true, not-true, cases_order, eqb-false, ne_eqb, le-leb}
pub use Rattle.std.proofs.lemmas.List.{length-append, length-map, take_all, take-append-le, length-take-le}
unfoldable pub use Rattle.fsb_count.specs.Clocks.{count_where, all_where}
unfoldable pub use Rattle.fsb_count.specs.Options.{is_before, is_some_and, is_at}
pub use Rattle.fsb_count.proofs.Interface.{count_where-same, is_before-from, is_before-parts, count_where-above}
pub use Rattle.fsb_count.proofs.Interface.{nth_where-one, first_where-found, length-all_where, nth_where-found}
pub use Rattle.fsb_count.proofs.Interface.{all_where-failed, all_where-passed, first_where-at, is_at-from, is_at-some}
pub use Rattle.fsb_count.proofs.Interface.{any_where-at, any_where-found}
pub use Rattle.fsb_signal.specs.declared.lines.TheConstants.Lines.{ADS, HIT, AERR}
unfoldable pub use Rattle.fsb_signal.specs.Samples.{line_at}
pub use Rattle.fsb_trace.specs.Agree.{AgreeTo}
pub use Rattle.fsb_trace.specs.At.{Trace}
unfoldable pub use Rattle.fsb_trace.specs.At.{request_at, responds_at, known_pair, known_pair_at, line_back}
unfoldable pub use Rattle.fsb_trace.specs.Deferral.{is_answered, later_of, due_at, is_due, is_pending, answers}
unfoldable pub use Rattle.fsb_trace.specs.Flight.{reply_number_of, is_reply_to, is_dropped, is_finished, is_outstanding}
unfoldable pub use Rattle.fsb_trace.specs.Flight.{last_clock_of, reply_end_of, is_live_reply_to, reply_clock_of}
unfoldable pub use Rattle.fsb_trace.specs.Flight.{has_ended, is_in_flight}
unfoldable pub use Rattle.fsb_trace.specs.Outcome.{is_deferral, is_settled_deferred, response_clock_of, settled_by}
unfoldable pub use Rattle.fsb_trace.specs.Outcome.{is_deferred}
unfoldable pub use Rattle.fsb_trace.specs.Requests.{line_of, live_clock_of, live_count, live_request_of, have_same_id}
unfoldable pub use Rattle.fsb_trace.specs.Requests.{is_cancelled, is_live, is_reply, is_reply_kind, live_number_of}
unfoldable pub use Rattle.fsb_trace.specs.Snoop.{snoop_end_of, line_at_snoop_end}
pub use Rattle.fsb_trace.proofs.Interface.{AgreeTo-sym, line_at-agree, line_at_snoop_end-stays, live_clock_of-stays}
pub use Rattle.fsb_trace.proofs.Interface.{live_request_of-stays, response_clock_of-stays, settled_outcome_of-ended}
pub use Rattle.fsb_trace.proofs.Interface.{snoop_end_of-clock, snoop_end_of-stays, is_live-agree, is_reply-some}
pub use Rattle.fsb_trace.proofs.Interface.{request_at-agree, live_below_count, live_clock_of-rises, live_request_of-at}
pub use Rattle.fsb_trace.proofs.Interface.{snoop_end_of-rises, end_of-response, winner_at-agree, is_cancelled-agree}
pub use Rattle.fsb_timely.proofs.Interface.{line_of-agree, settled_by-agree, snoop-tied, length-moments, moments-grow}
pub use Rattle.fsb_timely.proofs.Interface.{past-before, tied-snoop, one_end, begun-told}
pub use Rattle.fsb_lawful.proofs.Interface.{and-then, map-some, run_to-agrees, live-ads, wants-lawfully, begun-decoded}
pub use Rattle.fsb_lawful.proofs.Interface.{begun-winner, orderly-at, past-cut, some-and, turned-at, want-own, begun_of}
pub use Rattle.fsb_lawful.proofs.Interface.{want-few, wanted-by, snooped-to, IsWanted, cuts-agree, id-free}
pub use Rattle.fsb_lawful.proofs.Interface.{reply-before, reply-is, length-cut, slice_get-take, get-there}
pub use Rattle.fsb_tied.proofs.Interface.{reply-stays, same-both, Responds, cancelled-at, cancels, number-responded}
pub use Rattle.fsb_tied.proofs.Interface.{orderly-whole, responded-number, answered, has-reply, live-at, winner-four}
pub use Rattle.fsb_tied.proofs.Interface.{asked-at, deferred-held, held-plain, snooped-by, turn-so-far, IsSnooped}
pub use Rattle.fsb_tied.proofs.Interface.{told-deferred, begun-want}
pub use Rattle.fsb_bridge.specs.declared.deferral.Waiting.{Waiting}
pub use Rattle.fsb_bridge.specs.DeferralList.{StandsFor, IsDeferralOf, IsThatOf, HaveOwnIds, RespondsInOrder}
unfoldable pub use Rattle.fsb_bridge.specs.DeferralList.{live_line_of, request_number_of, response_before, waiting_at}
unfoldable pub use Rattle.fsb_bridge.specs.DeferralList.{waits, waiting_besides}
pub use Rattle.fsb_bridge.proofs.Interface.{AreEntriesOf-IsEntryOf, IsEntryOf, IsEntryOf-StandsFor, Matched}
pub use Rattle.fsb_bridge.proofs.Interface.{is_waited_for-StandsFor, due_deferral-StandsFor, deferral_of_id-reply}
pub use Rattle.fsb_bridge.proofs.Interface.{IsEntryOf-AreEntriesOf, waiting_without-reply, rest, rest_more}
pub use Rattle.fsb_encode.specs.declared.request.Request.{Request}
pub use Rattle.fsb_timely.specs.Runs.{Run}
unfoldable pub use Rattle.fsb_timely.specs.Runs.{past_of, past_to, run_to, requests_below, moments_below, entries_to}
unfoldable pub use Rattle.fsb_timely.specs.Starts.{due_number, reply_to, would_begin, request_begun, drives_ads}
unfoldable pub use Rattle.fsb_timely.specs.Starts.{drives_pair, is_spaced, may_begin, pair_due, request_begun_before}
unfoldable pub use Rattle.fsb_timely.specs.Starts.{starts_requests}
pub use Rattle.fsb_run_laws.specs.Reaches.{Reaches}
unfoldable pub use Rattle.fsb_coherent.specs.Awaits.{cancelled_in, responded_in}
pub use Rattle.fsb_bridge.specs.Deferrals.{with_answer, with_reply, deferral_of_id, due_deferral, is_covered}
pub use Rattle.fsb_bridge.specs.Deferrals.{is_waited_for, waiting_without}
unfoldable pub use Rattle.fsb_trace.specs.Winner.{winner_at, begins_at, is_agent, is_same_agent}
pub use Rattle.fsb_trace.specs.declared.who.Who.{Who}
unfoldable pub use Rattle.fsb_timely.specs.Moments.{number_of_turn, turns_in, choice_at, effective_choice, is_in_window}
unfoldable pub use Rattle.fsb_timely.specs.Moments.{is_answered_by, number_snooped_at, served_number, agent_at}
unfoldable pub use Rattle.fsb_timely.specs.Moments.{claim_at}
pub use Rattle.fsb_timely.specs.Timely.{Timely}
unfoldable pub use Rattle.fsb_timely.specs.Timely.{holds_at, holds_in}
pub use Rattle.fsb_lawful.specs.Beginning.{WantsLawfully, KeepsBounds}
pub use Rattle.fsb_laws.proofs.Interface.{count_where-none, one_more, last_clock_of-deferred, last_clock_of-plain}
pub use Rattle.fsb_laws.proofs.Interface.{request_at-last}
unfoldable pub use Rattle.fsb_timely.specs.Grants.{snooped_at, begun_at}
pub use Rattle.fsb_timely.specs.Growth.{GrowsTo}
pub use Rattle.fsb_timely.specs.Past.{SnoopEnd, Past, Claim}
pub use Rattle.fsb_hazard.specs.Choice.{effective, is_never_held_up}
pub use Rattle.fsb_trace.specs.declared.who.Who.TheVariants.{Priority}
unfoldable pub use Rattle.fsb_timely.specs.Snoops.{number_served_at, was_hit_before}
pub use Rattle.fsb_bridge.specs.declared.deferral.Deferral.{Deferral}
unfoldable pub use Rattle.fsb_bridge_run.specs.DeferralSteps.{reply_begun, after_cancellation, after_reply}
unfoldable pub use Rattle.fsb_bridge_run.specs.DeferralSteps.{after_response, reply_at, was_deferred, after_beginning}
unfoldable pub use Rattle.fsb_bridge_run.specs.DeferralSteps.{after_snoop_end, after_snoop_end_of, deferral_made}
unfoldable pub use Rattle.fsb_bridge_run.specs.DeferralSteps.{after_clock}
pub use Rattle.fsb_bridge_run.specs.RunDeferrals.{turns_of, FindsDeferrals, HasDeferrals, ShowsDeferrals, ShowsBegun}
