-- The words and lemmas of the crates below that the proofs of this crate cite, passed on in one place.

pub use Rattle.std.proofs.Common.{ℕ, ◌+◌, ◌<◌, ◌≤◌, ◌≡◌, Bool, true, ◌&&◌, List, ◌∷◌, Some, length, sym, ap, subst, ◌∙◌}
pub use Rattle.std.proofs.Common.{arith, inl, inr, false, not, ◌||◌, [], map, nat_eq, refl, suc, ◌/◌, Option, None}
pub use Rattle.std.proofs.Common.{if◌then◌else◌, slice_get, zero, add-one, is_some, ◌++◌, ◌≢◌, ◌⊎◌, ◌-◌, nat_lt}
pub use Rattle.std.proofs.Common.{append_assoc, ◌*◌, ◌%◌, fold, slice_index, add-zero, nat_le, ◌==◌, is_none, take}
pub use Rattle.std.proofs.lemmas.Bool.{cases_lt, lt-leb, both_ways, eq-eqb, or_left, or_right, false_from_ne_true}
pub use Rattle.std.proofs.lemmas.Bool.{and_parts, cases_Bool, eqb-true, and_from, le-leb, not-true, le-ltb, lt-ltb}
pub use Rattle.std.proofs.lemmas.Bool.{leb-true, ne_eqb, and_left, and_right, or_parts, or_from}
pub use Rattle.std.specs.List.{list_all, list_any, filter_map, filter, range_with_len}
pub use Rattle.std.specs.Option.{option_and_then, option_map, option_map_or}
pub use Rattle.std.specs.Prelude.{⊤, cond, unwrap_or}
pub use Rattle.std.proofs.lemmas.List.Elements.{filter-append}
pub use Rattle.std.proofs.lemmas.List.{take-append-le, take_all}
unfoldable pub use Rattle.fsb_count.specs.Clocks.{count_where, from_clock, first_where, all_where, any_where}
unfoldable pub use Rattle.fsb_count.specs.Clocks.{last_where}
unfoldable pub use Rattle.fsb_count.specs.Options.{is_some_and, is_at, is_before}
pub use Rattle.fsb_count.proofs.Interface.{any_where-at, nth_where-found, any_where-found, first_where-at}
pub use Rattle.fsb_count.proofs.Interface.{any_where-off, is_at-some, all_where-failed, is_at-from, nth_where-at}
pub use Rattle.fsb_count.proofs.Interface.{first_where-none, any_where-none, is_before-parts, first_where-found}
pub use Rattle.fsb_count.proofs.Interface.{is_before-from, last_where-failed, last_where-passed, first_where-same}
pub use Rattle.fsb_count.proofs.Interface.{count_where-same, first_where-carried, count_where-above, any_where-same}
pub use Rattle.fsb_count.proofs.Interface.{nth_where-one}
pub use Rattle.fsb_signal.specs.declared.lines.TheConstants.Lines.{DRDY, ADS, HITM, BPRI, LOCK, AERR, HIT}
pub use Rattle.fsb_signal.specs.Samples.{is_known_word}
unfoldable pub use Rattle.fsb_signal.specs.Samples.{line_at}
pub use Rattle.fsb_trace.specs.At.{Trace}
unfoldable pub use Rattle.fsb_trace.specs.At.{known_pair, known_pair_at, request_at, responds_at}
unfoldable pub use Rattle.fsb_trace.specs.Outcome.{does_move, moves_data, response_clock_of, outcome_by_kind, does_take}
unfoldable pub use Rattle.fsb_trace.specs.Outcome.{is_deferral, is_deferred, is_settled_deferred, settled_by}
unfoldable pub use Rattle.fsb_trace.specs.Outcome.{settled_outcome_of}
unfoldable pub use Rattle.fsb_trace.specs.Response.{end_of}
unfoldable pub use Rattle.fsb_trace.specs.Snoop.{snoop_end_of, line_at_snoop_end}
pub use Rattle.fsb_trace.proofs.Interface.{AgreeTo-sym, end_of-moving, end_of-response, end_of-stays}
pub use Rattle.fsb_trace.proofs.Interface.{response_clock_of-stays, snoop_end_of-rises, snoop_end_of-stays}
pub use Rattle.fsb_trace.proofs.Interface.{line_at-agree, request_at-agree, winner_at-agree, live_below_count}
pub use Rattle.fsb_trace.proofs.Interface.{live_clock_of-stays, snoop_end_of-clock, requesters_before-begun}
pub use Rattle.fsb_trace.proofs.Interface.{requesters_before-kept, requesters_before-start, winner_after-high}
pub use Rattle.fsb_trace.proofs.Interface.{winner_after-low, winner_by-locked, winner_by-priority, winner_by-symmetric}
pub use Rattle.fsb_trace.proofs.Interface.{live_clock_of-number, live_clock_of-rises, live_request_of-at}
pub use Rattle.fsb_trace.proofs.Interface.{settled_outcome_of-ended, live_request_of-stays, is_live-agree}
pub use Rattle.fsb_laws.proofs.Interface.{count_where-none, end_after_clock, has_answer, last_clock_of-deferred}
pub use Rattle.fsb_laws.proofs.Interface.{last_clock_of-plain, deferred_response, request_at-last, same_outstanding}
pub use Rattle.fsb_laws.proofs.Interface.{HasAnswer, clear_parts}
pub use Rattle.fsb_timely.specs.Grants.{is_ready}
unfoldable pub use Rattle.fsb_timely.specs.Grants.{ended_requests, is_end_at, is_ended, snooped_at, grant_at}
unfoldable pub use Rattle.fsb_timely.specs.Grants.{is_granted, begun_at, holds_line, is_claim_of_other, is_rival}
unfoldable pub use Rattle.fsb_timely.specs.Grants.{is_exclusive, is_owning, has_arrived, is_evicted, is_lost}
unfoldable pub use Rattle.fsb_timely.specs.Grants.{is_claim_of, is_snooped, is_taken_away, is_written_back}
unfoldable pub use Rattle.fsb_timely.specs.Grants.{latest_grant, line_granted_at, lines_granted, set_of}
pub use Rattle.fsb_timely.specs.Past.{Past, SnoopEnd, Grant, Claim, Owing}
pub use Rattle.fsb_timely.specs.Runs.{Run, past_with}
unfoldable pub use Rattle.fsb_timely.specs.Runs.{past_of, run_to, past_to, moments_below}
pub use Rattle.fsb_timely.specs.Timely.{Timely}
unfoldable pub use Rattle.fsb_timely.specs.Timely.{holds_at, holds_in}
pub use Rattle.fsb_timely.proofs.Interface.{snoop-tied, tied-snoop, want_of-new, begun-told, done_below, past-begins}
pub use Rattle.fsb_timely.proofs.Interface.{want_of-alike, moment-at, same-list, whole-completions, last_where-found}
pub use Rattle.fsb_timely.proofs.Interface.{holds_line-says, claim_at-agree, is_held_back-alike, moment_of, at, below}
pub use Rattle.fsb_timely.proofs.Interface.{below-more, is_ended-more, cancelled-told, length-moments, line_of-agree}
pub use Rattle.fsb_timely.proofs.Interface.{moment-snooped, settled_by-agree, snoop_of, snooped-there, number-found}
pub use Rattle.fsb_timely.proofs.Interface.{last_where-from, one_end, holds_line-more, is_outstanding-more, going-alike}
pub use Rattle.fsb_timely.proofs.Interface.{holds_line-same, is_dirty-alike, find-passes, missing-parts}
pub use Rattle.fsb_lawful.proofs.Interface.{run_to-agrees, told-as-settled, turned-at, some-and, begun-decoded}
pub use Rattle.fsb_lawful.proofs.Interface.{begun-winner, map-some, slice_get-take, want-own, wants-lawfully, any-from}
pub use Rattle.fsb_lawful.proofs.Interface.{any-listed, length-cut, orderly-at, IsListed, cuts-agree, granted-by}
pub use Rattle.fsb_lawful.proofs.Interface.{IsGrantedBy, Serves, ServesOther, IsWanted, and-then, id-free, wanted-by}
pub use Rattle.fsb_lawful.proofs.Interface.{any-kept, outstanding-of, owing-then, past-cut, reply-before, reply-is}
pub use Rattle.fsb_lawful.proofs.Interface.{begins-after, grants-are-owed, owes-less, begun_of, live-ads, TurnFits}
pub use Rattle.fsb_lawful.proofs.Interface.{snooped-to}
pub use Rattle.fsb_coherent.specs.Awaits.{Awaited}
unfoldable pub use Rattle.fsb_coherent.specs.Awaits.{responded_in, awaited_at, awaited_by, awaited_by_grant}
unfoldable pub use Rattle.fsb_coherent.specs.Awaits.{snoop_end_below, cancelled_in, purpose_of, purpose_wanted}
unfoldable pub use Rattle.fsb_coherent.specs.Awaits.{is_written, owner_at, awaited_by_claim}
pub use Rattle.fsb_access.specs.declared.access.Access.{Access}
pub use Rattle.fsb_access.specs.declared.item.Item.{Item}
pub use Rattle.fsb_line.specs.declared.link.Link.{Link}
pub use Rattle.fsb_line.specs.Links.{owns, is_linked, carries, upgrades, feeds_memory}
pub use Rattle.fsb_timely.specs.Completions.{Completed}
unfoldable pub use Rattle.fsb_timely.specs.Completions.{brings_at, completed_of_item, completes_by, is_arrival}
unfoldable pub use Rattle.fsb_timely.specs.Completions.{is_brought, completed_at, completed_if, entries_at}
unfoldable pub use Rattle.fsb_timely.specs.Completions.{next_accesses, of_all_agents, is_in_time, is_there}
unfoldable pub use Rattle.fsb_timely.specs.Hits.{is_hit, is_dirty, line_state_of, is_met, is_served}
pub use Rattle.fsb_timely.specs.Scripts.{Need}
unfoldable pub use Rattle.fsb_timely.specs.Scripts.{is_load, locked_need, needs_after, needs_of, next_item, plain_need}
unfoldable pub use Rattle.fsb_timely.specs.Scripts.{next_number}
unfoldable pub use Rattle.fsb_coherent.specs.LineEvents.{entries_on, events_below, ends_on, events_at, others_on}
unfoldable pub use Rattle.fsb_coherent.specs.LineEvents.{snoops_on, change_of, changes_of, responds_on, moves_on}
unfoldable pub use Rattle.fsb_coherent.specs.LineEvents.{hits_on, is_awaited_for, is_brought_to, is_of_other_line}
unfoldable pub use Rattle.fsb_coherent.specs.LineEvents.{access_event, awaited_events, awaiting_stores, begins_on}
unfoldable pub use Rattle.fsb_coherent.specs.LineEvents.{cancels_on, end_events, events_of_ends, begin_events}
unfoldable pub use Rattle.fsb_coherent.specs.LineEvents.{cancel_events, claimed_events, settled_events, snoop_events}
pub use Rattle.fsb_coherent.specs.Relation.{IsOpen}
unfoldable pub use Rattle.fsb_coherent.specs.Relation.{chain_below, links_left, is_cancelled_below, is_snooped_below}
unfoldable pub use Rattle.fsb_coherent.specs.Relation.{giver_at, purpose_at, purpose_granted, link_for, link_left}
unfoldable pub use Rattle.fsb_coherent.specs.Relation.{deferral_at, deferral_below, deferred_to, defers_line}
unfoldable pub use Rattle.fsb_coherent.specs.Relation.{replies_line, is_moved_below, is_moved_for, is_responded_below}
unfoldable pub use Rattle.fsb_timely.specs.Moments.{is_snoop_of, agent_at, claim_at, moment_at, requests_ending_at}
unfoldable pub use Rattle.fsb_timely.specs.Moments.{responded_at, is_got, is_upgraded, makes_grant, gives_line}
unfoldable pub use Rattle.fsb_timely.specs.Moments.{grant_for, grant_of, live_claim_of, served_number, wins_race}
unfoldable pub use Rattle.fsb_timely.specs.Moments.{grant_to, is_owner_request, is_shared_at, is_snooped_in}
unfoldable pub use Rattle.fsb_timely.specs.Moments.{is_unsnooped, snoop_at, turns_in, cancelled_at, owing_at}
unfoldable pub use Rattle.fsb_timely.specs.Moments.{effective_choice, number_of_turn, snoop_end_with, is_answered_by}
pub use Rattle.fsb_line.specs.Line.{OpenRequest, LineDeferral, Bytes, MemoryLine, brought, unheld, source}
unfoldable pub use Rattle.fsb_line.specs.Line.{trimmed}
unfoldable pub use Rattle.fsb_timely.specs.Wants.{is_asked_for, owed, want_of, is_held_back, is_open_to_other}
unfoldable pub use Rattle.fsb_timely.specs.Wants.{unsnooped_at, is_same_set, outstanding_at, least_of, victim_of}
unfoldable pub use Rattle.fsb_timely.specs.Wants.{is_missing, kind_needed, may_upgrade, request_of_kind, want_for}
unfoldable pub use Rattle.fsb_timely.specs.Wants.{write_back_of}
pub use Rattle.fsb_lawful.specs.Beginning.{KeepsBounds, WantsLawfully}
pub use Rattle.fsb_coherent.specs.Facts.{BeginsInOrder, IsBegunRightly, ClockFacts, AccessesServed, EndsInOrder}
pub use Rattle.fsb_coherent.specs.Facts.{RespondsAsOldest, IsRepliedOn, IsSettledOn, SettlesInOrder}
unfoldable pub use Rattle.fsb_coherent.specs.Facts.{suits_holder, does_end_on, does_respond_on, is_served_hit}
unfoldable pub use Rattle.fsb_coherent.specs.Facts.{is_served_other}
unfoldable pub use Rattle.fsb_encode.specs.Request.{are_lawful_fields, clocks, is_lawful_request, pairs_of, row_of}
pub use Rattle.fsb_encode.specs.declared.request.Kind.{Kind}
pub use Rattle.fsb_encode.specs.declared.request.Request.{Request}
pub use Rattle.fsb_trace.specs.declared.who.Who.{Who}
pub use Rattle.fsb_trace.specs.declared.who.Who.TheVariants.{Symmetric, Priority}
unfoldable pub use Rattle.fsb_trace.specs.Requests.{is_reply_kind, line_of, live_clock_of, live_count, is_upgrade_kind}
unfoldable pub use Rattle.fsb_trace.specs.Requests.{is_reply, live_request_of, is_cancelled, is_write_back_kind}
unfoldable pub use Rattle.fsb_trace.specs.Requests.{have_same_id, is_live, live_number_of}
pub use Rattle.fsb_trace.specs.Winner.{Requesters}
unfoldable pub use Rattle.fsb_trace.specs.Winner.{winner_at, agent_in_order, first_asking, last_if_asking}
unfoldable pub use Rattle.fsb_trace.specs.Winner.{requesters_before, then_begun, winner_after, winner_by, begins_at}
unfoldable pub use Rattle.fsb_trace.specs.Winner.{is_agent, is_same_agent}
unfoldable pub use Rattle.fsb_timely.specs.Starts.{drives_ads, drives_pair, pair_due, request_begun, starts_requests}
unfoldable pub use Rattle.fsb_timely.specs.Starts.{would_begin, has_free_winner, is_kept_back, may_begin}
unfoldable pub use Rattle.fsb_trace.specs.Rules.{next_response, is_id_taken_by}
pub use Rattle.fsb_laws.specs.Orderly.{Orderly}
pub use Rattle.fsb_encode.specs.declared.request.Kind.TheVariants.{Invalidate, Read, Reply, Upgrade, WriteBack}
pub use Rattle.fsb_hazard.specs.declared.choice.Turn.{Turn}
pub use Rattle.fsb_hazard.specs.declared.choice.Turn.TheVariants.{Defer, Keep, Retry}
pub use Rattle.fsb_trace.specs.declared.outcome.Outcome.{Outcome}
pub use Rattle.fsb_trace.specs.declared.outcome.Outcome.TheVariants.{Deferred, Granted, Handed, Replied, Retried}
pub use Rattle.fsb_trace.specs.declared.outcome.Outcome.TheVariants.{Upgraded, Written, Failed}
unfoldable pub use Rattle.fsb_coherent.specs.Settled.{is_always_kept, outcome_by_turn, outcome_under, own_grant}
unfoldable pub use Rattle.fsb_timely.specs.Snoops.{is_dirty_elsewhere, is_held_elsewhere, number_served_at}
unfoldable pub use Rattle.fsb_timely.specs.Snoops.{was_hit_before, has_right_result, has_snoop_result, is_dirty_for}
unfoldable pub use Rattle.fsb_timely.specs.Snoops.{is_held_for, is_reply_end}
pub use Rattle.fsb_coherent.proofs.Interface.{grant-made, outcome-made, turn-kept, events-in-two, first-events}
pub use Rattle.fsb_coherent.proofs.Interface.{links_new, run-append, snoop-step, may-below, only_holder, pending_shared}
pub use Rattle.fsb_coherent.proofs.Interface.{AfterHits, AfterResponse, goes-on, hits-step, responds-step, grant_if}
pub use Rattle.fsb_coherent.proofs.Interface.{facts-keep-ties, GoesOnAt, holds-to}
pub use Rattle.fsb_access.specs.Access.{accessed_line, addr_of, is_place, size_of, is_lawful_access}
pub use Rattle.fsb_access.specs.declared.log.Done.{Done}
pub use Rattle.fsb_access.specs.ScriptOrder.{Step, step_of, steps_from, steps_of_item, InOrder, accesses_from}
pub use Rattle.fsb_access.specs.ScriptOrder.{accesses_of, script_of}
pub use Rattle.fsb_hazard.specs.Choice.{is_never_held_up, is_defer}
pub use Rattle.fsb_coherent.specs.Fitting.{IsUncontested, IsSnoopOn}
unfoldable pub use Rattle.fsb_coherent.specs.Fitting.{fits_kind, fits_write_back, fits_getting, fits_upgrade}
pub use Rattle.fsb_timely.specs.Tied.{IsSnoopOf}
unfoldable pub use Rattle.fsb_timely.specs.Transfers.{settled_of}
unfoldable pub use Rattle.fsb_trace.specs.Flight.{has_ended, in_flight, is_dropped, is_in_flight, is_finished}
unfoldable pub use Rattle.fsb_trace.specs.Flight.{is_outstanding, last_clock_of, reply_end_of, reply_number_of}
unfoldable pub use Rattle.fsb_trace.specs.Flight.{outstanding, is_live_reply_to, is_reply_to, reply_clock_of}
pub use Rattle.fsb_access.specs.ByteMemory.{start_memory, ByteMemory}
unfoldable pub use Rattle.fsb_access.specs.ByteMemory.{bytes_at, put_value}
pub use Rattle.fsb_access.specs.Replay.{replay, start_of, ReplayState, replayed_values, served_state, served_value}
pub use Rattle.fsb_access.specs.Replay.{Served}
unfoldable pub use Rattle.fsb_timely.specs.Carried.{memory_below}
unfoldable pub use Rattle.fsb_timely.specs.Kept.{bytes_now, bytes_put, is_put, line_bytes, number_put, put_clock}
pub use Rattle.fsb_line.specs.Events.{Event}
unfoldable pub use Rattle.fsb_line.specs.Events.{after, arrived, effect, given, linked, oldest_ended, replied}
unfoldable pub use Rattle.fsb_line.specs.Events.{responded, settled, stored}
pub use Rattle.fsb_line.specs.LineRuns.{run, stored_by_all, MayRun}
pub use Rattle.fsb_line.proofs.Interface.{ordered_run, run-now, modified_is_sole, ready_has_copy}
pub use Rattle.fsb_coherent.specs.KeepsTie.{IsTiedTo, KeepsTie}
pub use Rattle.fsb_coherent.specs.BeforeSnoop.{TiedThrough}
unfoldable pub use Rattle.fsb_coherent.specs.BeforeSnoop.{events_before_snoop, events_from_snoop}
pub use Rattle.fsb_access.proofs.Interface.{bytes_at-beside, put_value-inside, put_value-outside, Served-front}
pub use Rattle.fsb_line.specs.States.{is_modified, is_sole, kind_owns, is_held}
pub use Rattle.fsb_line.specs.declared.purpose.Purpose.{Purpose}
pub use Rattle.fsb_line.specs.Events.Event.{Begins, Drops, Ends, IsCancelled, IsDeferred, IsGranted, IsHanded, IsLost}
pub use Rattle.fsb_line.specs.Events.Event.{IsReplied, IsRetried, IsUpgraded, IsWritten, Loads, Responds, Stores}
pub use Rattle.fsb_lawful.specs.Premises.{WritesBackAlone}
pub use Rattle.fsb_tied.specs.RunBytes.{HasValues, bytes_below, machine_line, line_of_plan, stores_of}
unfoldable pub use Rattle.fsb_tied.specs.RunBytes.{bytes_put_below, is_put_below, number_put_below, put_clock_below}
