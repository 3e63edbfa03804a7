-- The words and lemmas of the crates below that the proofs of this crate cite, passed on in one place.

pub use Rattle.std.proofs.Common.{ℕ, ◌+◌, ◌<◌, ◌≡◌, ◌≢◌, ◌%◌, Bool, true, false, not, ◌&&◌, ◌||◌, List, length, Some}
pub use Rattle.std.proofs.Common.{nat_eq, refl, sym, ap, subst, ◌∙◌, inl, inr, arith, ⊎_elim, if◌then◌else◌, cond}
pub use Rattle.std.proofs.Common.{Option, None, [], ◌∷◌, ◌++◌, zero, suc, map, ◌⊎◌, fold, append-nil, add-one, is_some}
pub use Rattle.std.proofs.Common.{◌≤◌, zero-add, replicate, get_or, take, slice_get, ◌/◌, ◌-◌, drop, nat_lt}
pub use Rattle.std.proofs.Common.{length-append, nat_le}
pub use Rattle.std.specs.List.{list_all, list_any, flat_map, filter, find, slice_index_or}
pub use Rattle.std.proofs.lemmas.Bool.{and_from, and_parts, cases_Bool, cases_eq, eq-eqb, eqb-true, false_from_ne_true}
pub use Rattle.std.proofs.lemmas.Bool.{ne_eqb, or_right, both_ways, eqb-false, or_cases, or_left, cases_lt, le-ltb}
pub use Rattle.std.proofs.lemmas.Bool.{lt-ltb, not-true, le-leb, lt-leb, or_parts}
pub use Rattle.std.specs.Prelude.{◌==◌, count_by, is_none}
pub use Rattle.std.proofs.lemmas.List.Sums.{sum_by-cons, sum_by_push, fold-append, count_by-le-length, length-filter}
pub use Rattle.std.specs.Option.{option_map, option_map_or, option_and_then}
pub use Rattle.std.proofs.lemmas.List.Elements.{filter-append}
pub use Rattle.std.proofs.lemmas.List.{length-replicate, length-drop, map-append, length-map}
pub use Rattle.fsb_access.specs.declared.access.Access.{Access}
pub use Rattle.fsb_access.specs.declared.item.Item.{Item}
pub use Rattle.fsb_access.specs.Access.{accessed_line}
pub use Rattle.fsb_access.specs.ScriptOrder.{Step, steps_of_item, steps_from, steps_of, step_of}
pub use Rattle.fsb_cache.specs.Sets.{CacheSets, slot_of, sets_filled, only_line, sets_shared, sets_stored, sets_without}
pub use Rattle.fsb_cache.specs.Sets.{state_of_held, with_slot}
unfoldable pub use Rattle.fsb_cache.specs.Sets.{states, held_at, copies}
unfoldable pub use Rattle.fsb_count.specs.Options.{is_some_and, is_at, is_before}
pub use Rattle.fsb_linebuf.specs.Buffers.{Buffered, fills_without, fill_on, is_push_for, promise_on, promised_to}
pub use Rattle.fsb_linebuf.specs.Buffers.{push_for, pushed_to, pushes_without, is_fill_on, with_promise}
pub use Rattle.fsb_line.specs.declared.state.Mesi.{Mesi}
pub use Rattle.fsb_line.specs.declared.state.Mesi.TheVariants.{Modified, Invalid, Exclusive, Shared}
pub use Rattle.fsb_line.specs.States.{is_held, kind_owns, is_modified, after_snoop, asks_line, granted, answer_of}
pub use Rattle.fsb_line.specs.States.{is_sole}
pub use Rattle.fsb_timely.specs.Past.{Grant, Owing, Past, SnoopEnd, Claim, Moment}
pub use Rattle.fsb_timely.specs.Completions.{Completed}
unfoldable pub use Rattle.fsb_timely.specs.Completions.{completes_by, is_arrival, is_brought, is_there, completed_if}
unfoldable pub use Rattle.fsb_timely.specs.Completions.{completed_of_item, next_accesses, brings_at}
unfoldable pub use Rattle.fsb_timely.specs.Grants.{has_arrived, holds_line, is_end_at, is_ended, is_exclusive}
unfoldable pub use Rattle.fsb_timely.specs.Grants.{is_granted, is_lost, is_rival, latest_grant, set_of, snooped_at}
unfoldable pub use Rattle.fsb_timely.specs.Grants.{begun_at, ended_requests, grant_at, is_owning, is_claim_of}
unfoldable pub use Rattle.fsb_timely.specs.Grants.{is_claim_of_other, is_named_by_other, is_snooped, is_taken_away}
unfoldable pub use Rattle.fsb_timely.specs.Grants.{is_written_back, is_evicted, is_sole_grant}
unfoldable pub use Rattle.fsb_timely.specs.Hits.{is_hit, is_met, is_store_on, is_dirty, is_served, is_stored_since}
unfoldable pub use Rattle.fsb_timely.specs.Hits.{is_counted}
pub use Rattle.fsb_timely.specs.Runs.{Run}
unfoldable pub use Rattle.fsb_timely.specs.Runs.{past_of, run_to, past_to}
pub use Rattle.fsb_timely.specs.Scripts.{Need}
unfoldable pub use Rattle.fsb_timely.specs.Scripts.{is_idling, is_load, needs_of, next_item, items_of, completes_at}
unfoldable pub use Rattle.fsb_timely.specs.Scripts.{is_done_at, next_number, idle_clocks, idle_start, is_done_by}
unfoldable pub use Rattle.fsb_timely.specs.Scripts.{is_idle, is_logged, is_to_do, last_done, number_after, idle_count}
unfoldable pub use Rattle.fsb_timely.specs.Scripts.{locked_need, needs_after, plain_need, is_locked, needs_from}
unfoldable pub use Rattle.fsb_timely.specs.Scripts.{plain_items, window_from, is_logged_at, window, window_at}
unfoldable pub use Rattle.fsb_timely.specs.Wants.{is_asked_for, owed, want_of, outstanding_at, request_of_kind}
unfoldable pub use Rattle.fsb_timely.specs.Wants.{write_back_of, is_id_used, is_same_set, victim_of, free_id, id_of}
unfoldable pub use Rattle.fsb_timely.specs.Wants.{is_missing, is_set_taken, kind_needed, may_upgrade, want_for}
pub use Rattle.fsb_timely.proofs.Interface.{holds_line-more, is_ended-more, tied-snoop, last_where-found}
pub use Rattle.fsb_timely.proofs.Interface.{last_where-from, last-same, past-same, at, logged-next, logs-item}
pub use Rattle.fsb_timely.proofs.Interface.{not-behind, steps-completed, done-same, below_le, done_below}
pub use Rattle.fsb_timely.proofs.Interface.{is_dirty-alike, want_of-new, is_logged-more, next_number-same}
pub use Rattle.fsb_timely.proofs.Interface.{latest_grant-more, holds_line-says, is_exclusive-more}
pub use Rattle.fsb_coherent.specs.Awaits.{Awaited}
unfoldable pub use Rattle.fsb_coherent.specs.Awaits.{snoop_end_below, responded_in, cancelled_in, owner_at, awaited_by}
unfoldable pub use Rattle.fsb_coherent.specs.Awaits.{awaited_by_claim, awaited_by_grant, is_written, purpose_of}
pub use Rattle.fsb_coherent.specs.Relation.{IsOpen}
unfoldable pub use Rattle.fsb_coherent.specs.Relation.{is_dirty_below, is_responded_below, giver_at, chain_below}
unfoldable pub use Rattle.fsb_coherent.specs.Relation.{link_for, link_left, links_left, deferral_at, deferral_below}
unfoldable pub use Rattle.fsb_coherent.specs.Relation.{deferred_to, defers_line, is_cancelled_below, is_dirty_through}
unfoldable pub use Rattle.fsb_coherent.specs.Relation.{is_snooped_below, is_stored_below, replies_line}
pub use Rattle.fsb_lawful.proofs.Interface.{grants-are-owed, some-and, and-then, length-cut, run_to-agrees, get-there}
pub use Rattle.fsb_lawful.proofs.Interface.{map-some, want-few, IsListed, any-listed}
pub use Rattle.fsb_tied.proofs.Interface.{one-slot, begun-want, begun-shown, answers-in-order, cancels, one-at-end}
pub use Rattle.fsb_tied.proofs.Interface.{clock-facts, ended-number, grant-first, one-ends, orderly-whole, same-both}
pub use Rattle.fsb_tied.proofs.Interface.{snooped-by, end-below, live-at, granted-parts, awaits-grant, is-found}
pub use Rattle.fsb_tied.proofs.Interface.{none-before, uncontested, writes-back-alone, events-may-happen, deferred-held}
pub use Rattle.fsb_tied.proofs.Interface.{begun-apart, one-dirty, own-owed, claimed-at, a-victim, no-victim}
pub use Rattle.fsb_tied.proofs.Interface.{rival-other, rival-set, unsnooped-below}
pub use Rattle.fsb_run_laws.specs.Reaches.{Reaches}
pub use Rattle.fsb_agent_view.specs.declared.want.OwnRequest.{OwnRequest}
pub use Rattle.fsb_agent_view.specs.AgentViews.{AgentView, line_state_by, is_served_by, may_complete, number_by}
pub use Rattle.fsb_agent_view.specs.AgentViews.{has_come, is_finished_at, is_idle_by, next_item_by, number_at}
pub use Rattle.fsb_agent_view.specs.AgentViews.{answer_by, is_met_by}
pub use Rattle.fsb_agent_view.specs.Arriving.{arrived_for, is_arrival_by, landed, met_by, sets_settled, with_bytes}
pub use Rattle.fsb_agent_view.specs.Arriving.{hand_by, handed_on, may_give_up, given_up, line_arrived, upgrade_ended}
pub use Rattle.fsb_agent_view.specs.Arriving.{ended_for, may_arrive, may_end_upgrade, arrived_entries}
pub use Rattle.fsb_agent_view.specs.Arriving.{ended_entries_for, met_entries, upgrade_entries, are_met_with}
pub use Rattle.fsb_agent_view.specs.Arriving.{is_brought_by, is_there_by, buffers_landed}
pub use Rattle.fsb_agent_view.specs.Completing.{completed_by, hand_of, next_steps, performed, completed_entries}
pub use Rattle.fsb_agent_view.specs.Completing.{is_hit_by, performed_entries, steps_at}
pub use Rattle.fsb_agent_view.specs.OwnRequests.{requests_without, request_numbered, is_numbered, requests_granted}
pub use Rattle.fsb_agent_view.specs.OwnRequests.{new_request}
pub use Rattle.fsb_agent_view.specs.Serving.{hand_after_steps, AtHand, entries_at_hand, hand_after}
pub use Rattle.fsb_agent_view.specs.Snooping.{kind_asks, owed_count, may_commit, committed, own_settled, may_be_settled}
pub use Rattle.fsb_agent_view.specs.Snooping.{buffers_giving, granted_by, is_giver, no_bytes, other_settled}
pub use Rattle.fsb_agent_view.specs.Snooping.{sets_lowered, state_snooped, with_fill, is_handed, upgraded_by, with_push}
pub use Rattle.fsb_agent_view.specs.Snooping.{written_by}
pub use Rattle.fsb_agent_view.proofs.Interface.{length-with_slot, length-without-found, without_first-cons, both_left}
pub use Rattle.fsb_agent_view.proofs.Interface.{both_right, list_all-found, list_all-from, busy_from, slot_of-other}
pub use Rattle.fsb_agent_view.proofs.Interface.{slot_of-same, sound_given_up, sound_handed}
pub use Rattle.fsb_run_laws.proofs.Interface.{ServesOutstanding, cancelled-last, last-outstanding, replied-outstanding}
pub use Rattle.fsb_run_laws.proofs.Interface.{replied-on, ending-serves, ends-last, last-says, snooped-outstanding}
pub use Rattle.fsb_run_laws.proofs.Interface.{brought-told, snoop-below, completes-exactly, last-of, begun-wanted}
pub use Rattle.fsb_run_laws.proofs.Interface.{owing-claim, owed-step, owed-told, none-stored}
pub use Rattle.fsb_timely.specs.Timely.{Timely}
unfoldable pub use Rattle.fsb_timely.specs.Timely.{holds_at, holds_in}
pub use Rattle.fsb_lawful.specs.Beginning.{KeepsBounds}
pub use Rattle.fsb_linebuf.specs.declared.entry.Fill.{Fill}
pub use Rattle.fsb_linebuf.specs.declared.entry.Push.{Push}
unfoldable pub use Rattle.fsb_count.specs.Clocks.{count_where, any_where, last_where, holds_since, first_where}
unfoldable pub use Rattle.fsb_count.specs.Clocks.{from_clock}
pub use Rattle.fsb_count.proofs.Interface.{any_where-at, any_where-found, any_where-more, any_where-off}
pub use Rattle.fsb_count.proofs.Interface.{count_where-same, is_at-some, first_where-found, is_at-from, any_where-none}
pub use Rattle.fsb_count.proofs.Interface.{count_where-above, count_where-passed, is_before-parts, length-all_where}
pub use Rattle.fsb_count.proofs.Interface.{first_where-at, any_where-same, first_where-off, nat_eq-sym}
pub use Rattle.fsb_count.proofs.Interface.{count_where-failed, last_where-failed, last_where-passed, nat_lt-more}
pub use Rattle.fsb_count.proofs.Interface.{first_where-none}
unfoldable pub use Rattle.fsb_trace.specs.Flight.{is_outstanding, has_ended, in_flight, is_dropped, is_in_flight}
unfoldable pub use Rattle.fsb_trace.specs.Flight.{outstanding}
pub use Rattle.fsb_agent_view.specs.Sound.{IsSound, is_only, is_sound_request, is_in_set}
pub use Rattle.fsb_agent_view.specs.Wanting.{may_send, free_id_by, is_missing_by, kind_by, missing_by, victim_by}
pub use Rattle.fsb_agent_view.specs.Wanting.{want_by, want_for_by, window_beginning, window_by, sent, sets_cleared_for}
pub use Rattle.fsb_agent_view.specs.Wanting.{dirty_other, is_id_used_by, is_silent_by, is_taken_by}
pub use Rattle.fsb_encode.specs.declared.request.Request.{Request}
unfoldable pub use Rattle.fsb_trace.specs.Outcome.{is_deferral}
pub use Rattle.fsb_trace.specs.declared.outcome.Outcome.{Outcome}
pub use Rattle.fsb_trace.specs.declared.outcome.Outcome.TheVariants.{Granted, Handed, Retried, Deferred, Written}
pub use Rattle.fsb_trace.specs.declared.outcome.Outcome.TheVariants.{Replied, Failed, Upgraded}
pub use Rattle.fsb_coherent.specs.Fitting.{IsSnoopOn}
unfoldable pub use Rattle.fsb_coherent.specs.Fitting.{fits_kind, fits_getting, fits_upgrade, fits_write_back}
unfoldable pub use Rattle.fsb_coherent.specs.Fitting.{is_granted_by}
pub use Rattle.fsb_agent_view.specs.AgentEvents.{AgentEvent, Arrived, Committed, GivenUp, Sent, UpgradeEnded}
pub use Rattle.fsb_agent_view.specs.AgentEvents.{agent_after, first_view, HandedOn, Performed}
pub use Rattle.fsb_encode.specs.declared.request.Kind.{Kind}
unfoldable pub use Rattle.fsb_timely.specs.Moments.{is_upgraded, makes_grant, is_snoop_of, is_got, is_owner_request}
pub use Rattle.fsb_timely.specs.Growth.{GrowsTo, IsWhole, GoesOn}
unfoldable pub use Rattle.fsb_timely.specs.Growth.{is_last_clock}
pub use Rattle.fsb_coherent.proofs.Interface.{some-there, dirty-none, dirty-by-hits, facts-keep-ties, may-below}
pub use Rattle.fsb_coherent.proofs.Interface.{ended-later, granted-now}
pub use Rattle.fsb_access.specs.declared.log.Done.{Done}
pub use Rattle.fsb_signal.specs.declared.lines.TheConstants.Lines.{ADS, AERR}
unfoldable pub use Rattle.fsb_signal.specs.Samples.{line_at}
unfoldable pub use Rattle.fsb_trace.specs.Requests.{is_cancelled, is_live, live_clock_of, live_number_of, is_write_back}
unfoldable pub use Rattle.fsb_trace.specs.Requests.{is_write_back_kind}
pub use Rattle.fsb_cache.specs.declared.held.Held.{Held}
pub use Rattle.fsb_agent_view.specs.Idling.{idle_from, place_from, idle_clocks_in_front, idle_count_in_front}
pub use Rattle.fsb_agent_view.specs.Idling.{is_idle_item}
pub use Rattle.fsb_encode.specs.declared.request.Kind.TheVariants.{WriteBack}
pub use Rattle.fsb_line.specs.declared.link.Link.{Link}
pub use Rattle.fsb_line.specs.Links.{is_linked}
pub use Rattle.fsb_access.specs.declared.item.Item.TheVariants.{One, Locked, Idle}
pub use Rattle.fsb_agent_view.specs.declared.want.Want.{Want}
unfoldable pub use Rattle.fsb_run_laws.specs.RunStates.{state_granted, state_read}
unfoldable pub use Rattle.fsb_run_laws.specs.RunSteps.{listed, owing_begun}
pub use Rattle.fsb_line.specs.declared.purpose.Purpose.{Purpose}
pub use Rattle.fsb_line.specs.Line.{LineDeferral, OpenRequest, MemoryLine, unheld}
pub use Rattle.fsb_agent_run.specs.Ending.{EndsFor, NothingEndsFor}
unfoldable pub use Rattle.fsb_agent_run.specs.Ending.{number_claimed, number_left, number_replied}
pub use Rattle.fsb_agent_run.specs.RunViews.{IsAgentOf, IsComing, IsPlacedIn, LogsItem, one_if, owing_by, state_told}
pub use Rattle.fsb_agent_run.specs.RunViews.{fill_count, HasLines, HasRequestsOf, HasLinesOf, place_of, finished_by}
pub use Rattle.fsb_agent_run.specs.RunViews.{idle_end, CompletesItem, IsAtItem}
unfoldable pub use Rattle.fsb_agent_run.specs.RunViews.{is_awaited, is_won_below}
pub use Rattle.fsb_agent_run.specs.Stages.{IsViewAfterSnoop, IsViewOf, is_dirty_snooped, IsViewAfterHit}
pub use Rattle.fsb_agent_run.specs.Stages.{IsViewAfterSent, IsViewBeforeSnoop, IsPlacedThrough}
unfoldable pub use Rattle.fsb_agent_run.specs.Stages.{owed_sent, owed_through, owings_begun, is_uncancelled}
unfoldable pub use Rattle.fsb_agent_run.specs.AgentClocks.{number_asked, cancelled_events, committed_events}
unfoldable pub use Rattle.fsb_agent_run.specs.AgentClocks.{end_events_of, ended_events, events_of_agent}
unfoldable pub use Rattle.fsb_agent_run.specs.AgentClocks.{events_of_agent_below, given_up_events, handed_events}
unfoldable pub use Rattle.fsb_agent_run.specs.AgentClocks.{is_seen_shared, own_end_events, replied_events}
unfoldable pub use Rattle.fsb_agent_run.specs.AgentClocks.{reply_end_events, sent_events, snoop_events_of, giver_of}
unfoldable pub use Rattle.fsb_agent_run.specs.AgentClocks.{giver_after_snoop}
pub use Rattle.fsb_agent_run.specs.BytesOwed.{HasBytesOwed}
unfoldable pub use Rattle.fsb_agent_run.specs.BytesOwed.{claim_given_at, is_given_below, is_pushed, owes_bytes_from}
unfoldable pub use Rattle.fsb_agent_run.specs.BytesOwed.{promise_told, claim_given_by, gives_claim, given_since}
unfoldable pub use Rattle.fsb_agent_run.specs.BytesOwed.{gives_line_at, is_promised}
unfoldable pub use Rattle.fsb_agent_run.specs.Owings.{are_owings_apart, is_owing_apart}
pub use Rattle.fsb_agent_run.specs.EntriesMade.{LogsAccesses, logged_access}
