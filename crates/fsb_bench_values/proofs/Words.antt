-- The words and lemmas of the crates below that the proofs of this crate cite, passed on in one place.

pub use Rattle.std.proofs.Common.{ℕ, ◌+◌, ◌≡◌, ◌||◌, Bool, Option, Some, None, List, [], ◌∷◌, fold, if◌then◌else◌, sym}
pub use Rattle.std.proofs.Common.{subst, ◌∙◌, arith, ◌<◌, ◌%◌, ◌≢◌, true, false, ◌&&◌, not, length, refl, ⊎_elim}
pub use Rattle.std.proofs.Common.{nat_eq, slice_index, inl, inr, zero, suc, ◌≤◌, ◌*◌, is_some, nat_le, nat_lt, ◌++◌}
pub use Rattle.std.proofs.Common.{◌⊎◌, get_or, replicate, ◌/◌, map, drop, take, lit<, append-nil, append_assoc, add-one}
pub use Rattle.std.proofs.Common.{ap}
pub use Rattle.std.specs.Prelude.{◌==◌, is_none, cond, unwrap_or, IsTrue, count_by}
pub use Rattle.std.specs.List.{slice_get, list_all, find, filter, list_any}
pub use Rattle.std.specs.Option.{option_map_or, option_and_then, option_map}
pub use Rattle.std.proofs.lemmas.Bool.{and_from, and_parts, both_ways, cases_eq, eq-eqb, eqb-true, ne_eqb, or_left}
pub use Rattle.std.proofs.lemmas.Bool.{or_right, cases_lt, leb-true, le-leb, ltb-true, cases_Bool, false_from_ne_true}
pub use Rattle.std.proofs.lemmas.Bool.{le-ltb, not-true}
pub use Rattle.std.proofs.lemmas.Option.{slice_get_within, slice_get_past}
pub use Rattle.std.proofs.lemmas.List.Elements.{filter-append}
pub use Rattle.fsb_agent_view.specs.AgentEvents.{AgentEvent, GivenUp, HandedOn, Sent, agent_after, Performed}
pub use Rattle.fsb_agent_view.specs.AgentViews.{AgentView, has_come, is_served_by, line_state_by, may_complete}
pub use Rattle.fsb_agent_view.specs.AgentViews.{next_item_by}
pub use Rattle.fsb_queue.specs.declared.entry.Entry.{Entry}
pub use Rattle.fsb_trace.specs.declared.who.Who.{Who}
pub use Rattle.fsb_trace.specs.declared.who.Who.TheVariants.{Symmetric, Priority}
pub use Rattle.fsb_bench_view.specs.declared.beginning.Starting.{Starting}
pub use Rattle.fsb_bench_view.specs.declared.decided.BytesFrom.{BytesFrom}
pub use Rattle.fsb_bench_view.specs.declared.decided.BytesFrom.TheVariants.{Memory, Agents}
pub use Rattle.fsb_bench_view.specs.declared.snoop.SnoopSettled.{SnoopSettled}
pub use Rattle.fsb_bench_view.specs.BenchSteps.{step_answered, step_cancelled, step_decided, step_drive, step_fetched}
pub use Rattle.fsb_bench_view.specs.BenchSteps.{step_performed, step_snooped, step_started, bench_stepped, step_run}
pub use Rattle.fsb_bench_view.specs.BenchSteps.{step_entries, step_sample, step_ended, step_ending, step_phased}
pub use Rattle.fsb_bench_view.specs.BusEvents.{answered_by, bus_answered, bus_cancelled, bus_snooped, bus_started}
pub use Rattle.fsb_bench_view.specs.BusEvents.{cancelled_event, snooped_event, starting_event, heard_entries, bus_ended}
pub use Rattle.fsb_bench_view.specs.BusEvents.{memory_ended, agent_ended, end_entries, ended_event, entries_ended}
pub use Rattle.fsb_bench_view.specs.BusEvents.{ending_by, end_event}
pub use Rattle.fsb_bench_view.specs.BusViews.{BenchView, BusView, next_clock_of}
pub use Rattle.fsb_bench_view.specs.BytesFetched.{bus_fetched, bytes_source, chunk_in, chunk_moved, data_driven}
pub use Rattle.fsb_bench_view.specs.BytesFetched.{head_outcome, from_for}
pub use Rattle.fsb_bench_view.specs.ToldAgents.{agents_told, for_all, hit_entries, bytes_owed, first_of, for_one}
pub use Rattle.fsb_bench_run.proofs.Interface.{some-of, told-at, before-growth, grows-to, holds-now, one-number}
pub use Rattle.fsb_bench_run.proofs.Interface.{orderly-run, reaches-step, run_with, timely-now, clock-there, code-now}
pub use Rattle.fsb_bench_run.proofs.Interface.{head-settled, rank-rises, sample-grown, bench-hits, ending-heard}
pub use Rattle.fsb_bench_run.proofs.Interface.{made-by, settled-or-replied, some-lines, step-with, views-answered}
pub use Rattle.fsb_bench_run.proofs.Interface.{begun-claim, begun-is, begun-stays, end-cases, IsEnding, ending-of}
pub use Rattle.fsb_bench_run.proofs.Interface.{head-ends, queue-answered, same-performed, IsResponding, responding-of}
pub use Rattle.fsb_bench_run.proofs.Interface.{responding-settled, responds-first, first-is, fetched-from}
pub use Rattle.fsb_bench_run.proofs.Interface.{arrival-unhit, AgentsAre, IsSnoopHeard, answered-agents, hears-snoop}
pub use Rattle.fsb_bench_run.proofs.Interface.{performed-buffers, snoop-cases, told-each, views-cancelled, agents-next}
pub use Rattle.fsb_bench_run.proofs.Interface.{owed-answered, and-some, answered-of, begun-reply-kind, begun-request}
pub use Rattle.fsb_bench_run.proofs.Interface.{itself-served, reply-serves, claim-told, AreOfClock, agents-found}
pub use Rattle.fsb_bench_run.proofs.Interface.{first-entries}
pub use Rattle.fsb_access.specs.declared.item.Item.{Item}
pub use Rattle.fsb_access.specs.Replay.{ReplayState, replay, start_of, put_of, replayed_values, served_state}
pub use Rattle.fsb_access.specs.Replay.{served_value}
pub use Rattle.fsb_access.specs.ScriptOrder.{Step, steps_from, steps_of_item, InOrder, accesses_of, script_of, step_of}
pub use Rattle.fsb_access.specs.ScriptOrder.{steps_of}
pub use Rattle.fsb_agent_run.proofs.Interface.{fill_on-without, come-by, comes-to, ended-here, held-by, kept-made}
pub use Rattle.fsb_agent_run.proofs.Interface.{sole-by, among-get, found-among, claim-given, hand-there, owed-grown}
pub use Rattle.fsb_agent_run.proofs.Interface.{same-first, IsNeedOf, steps-need, Among, IsOwnAt, among-filter}
pub use Rattle.fsb_agent_run.proofs.Interface.{claimed-out, come-count, get-among, held-told, is_settled_for}
pub use Rattle.fsb_agent_run.proofs.Interface.{numbered-among, owing-there, replied-out, sent-is, settled-unawaited}
pub use Rattle.fsb_agent_run.proofs.Interface.{wanted-of, written-kind, all-among, among-any, awaits-by, fill-counted}
pub use Rattle.fsb_agent_run.proofs.Interface.{kept-of, among-either, among-without, given, owing-is, promised-at}
pub use Rattle.fsb_agent_run.proofs.Interface.{among-granted, dirty-unpromised, earlier-ended, gives-by, served-number}
pub use Rattle.fsb_agent_run.proofs.Interface.{hit-by, placed-at}
pub use Rattle.fsb_cache.specs.Sets.{CacheSets, sets_filled, sets_without, sets_stored, slot_of, held_shared}
pub use Rattle.fsb_cache.specs.Sets.{held_stored, only_line, sets_shared, with_slot}
unfoldable pub use Rattle.fsb_cache.specs.Sets.{copies, states, held_at}
pub use Rattle.fsb_cache.specs.Sets.{bytes_of_held, state_of_held}
pub use Rattle.fsb_lawful.proofs.Interface.{all-at, get-there, LastMoves, and-then, chunk-bounds, chunks-few}
pub use Rattle.fsb_lawful.proofs.Interface.{cuts-agree, is_chunk, last-moves, length-cut, live_choice-same, orderly-at}
pub use Rattle.fsb_lawful.proofs.Interface.{told-as-settled, granted-by, some-and}
pub use Rattle.fsb_line.specs.declared.state.Mesi.{Mesi}
pub use Rattle.fsb_line.specs.declared.state.Mesi.TheVariants.{Modified, Invalid, Exclusive, Shared}
pub use Rattle.fsb_line.specs.States.{is_held, kind_owns, is_sole, asks_line, granted, is_modified, suits}
pub use Rattle.fsb_linebuf.specs.Buffers.{fill_on, Buffered, promised_to, is_push_for, push_for, promise_on, pushed_to}
pub use Rattle.fsb_linebuf.specs.Buffers.{pushes_without}
pub use Rattle.fsb_script.specs.Bounds.{is_apart, is_lawful_item}
unfoldable pub use Rattle.fsb_script.specs.Bounds.{is_lawful_script, is_lock_apart}
pub use Rattle.fsb_timely.specs.Kept.{Kept}
unfoldable pub use Rattle.fsb_timely.specs.Kept.{line_bytes, bytes_now, bytes_put, number_put, put_clock}
pub use Rattle.fsb_timely.specs.Scripts.{Need}
unfoldable pub use Rattle.fsb_timely.specs.Scripts.{needs_of, is_load, items_of, next_item, next_number, locked_need}
unfoldable pub use Rattle.fsb_timely.specs.Scripts.{needs_after, is_done_at}
pub use Rattle.fsb_agent_view.specs.declared.want.OwnRequest.{OwnRequest}
pub use Rattle.fsb_agent_view.specs.Arriving.{are_met_with, arrived_for, is_arrival_by, landed, met_by, met_entries}
pub use Rattle.fsb_agent_view.specs.Arriving.{with_bytes, arrived_entries, ended_entries_for, ended_for, given_up}
pub use Rattle.fsb_agent_view.specs.Arriving.{line_arrived, upgrade_ended, upgrade_entries, handed_on, is_brought_by}
pub use Rattle.fsb_agent_view.specs.Arriving.{is_there_by, hand_by}
pub use Rattle.fsb_agent_view.specs.Completing.{completed_by, completed_entries, hand_of, next_steps, performed}
pub use Rattle.fsb_agent_view.specs.Completing.{performed_entries, is_hit_by}
pub use Rattle.fsb_agent_view.specs.Snooping.{kind_asks, buffers_giving, committed, granted_by, is_giver, no_bytes}
pub use Rattle.fsb_agent_view.specs.Snooping.{other_settled, own_settled, sets_lowered, state_snooped, upgraded_by}
pub use Rattle.fsb_agent_view.specs.Snooping.{with_fill, with_push, written_by}
pub use Rattle.fsb_timely.specs.Carried.{Carried}
unfoldable pub use Rattle.fsb_timely.specs.Carried.{carried_value, carries_chunk, carries_data, carries_from}
unfoldable pub use Rattle.fsb_timely.specs.Carried.{carries_if_due, memory_below, served_request, chunk_value}
pub use Rattle.fsb_bench_run.specs.BenchOf.{IsBenchOf, IsServed, IsBegunAt}
pub use Rattle.fsb_hazard.specs.declared.choice.Choice.{Choice}
pub use Rattle.fsb_timely.specs.Runs.{Run}
unfoldable pub use Rattle.fsb_timely.specs.Runs.{past_of, run_to, requests_below, past_to}
pub use Rattle.fsb_access.specs.declared.log.Done.{Done}
pub use Rattle.fsb_bench_view.specs.declared.snoop.Served.{Served}
unfoldable pub use Rattle.fsb_coherent.specs.Facts.{does_respond_on, does_end_on, is_served_hit, is_served_other}
unfoldable pub use Rattle.fsb_coherent.specs.Relation.{is_moved_below, giver_at, is_dirty_below, chain_below, link_for}
unfoldable pub use Rattle.fsb_coherent.specs.Relation.{links_left, is_stored_below, is_responded_below, link_left}
unfoldable pub use Rattle.fsb_coherent.specs.Relation.{purpose_at}
unfoldable pub use Rattle.fsb_count.specs.Clocks.{each_where, count_where, from_clock, nth_where, any_where, last_where}
unfoldable pub use Rattle.fsb_count.specs.Clocks.{first_where}
unfoldable pub use Rattle.fsb_count.specs.Options.{is_at, is_some_and, is_before}
pub use Rattle.fsb_count.proofs.Interface.{each_where-all, is_at-some, nth_where-found, count_where-above}
pub use Rattle.fsb_count.proofs.Interface.{count_where-mono, count_where-passed, count_where-same, first_where-found}
pub use Rattle.fsb_count.proofs.Interface.{first_where-none, nth_where-rises, any_where-at, is_before-from}
pub use Rattle.fsb_count.proofs.Interface.{any_where-found, any_where-off, is_at-from}
unfoldable pub use Rattle.fsb_encode.specs.Burst.{burst_order}
pub use Rattle.fsb_encode.specs.declared.request.Request.{Request}
pub use Rattle.fsb_laws.proofs.Interface.{one_more, is_in_flight-end, clear_parts, has_answer, response_counted}
pub use Rattle.fsb_laws.proofs.Interface.{response_there}
pub use Rattle.fsb_line.specs.Line.{MemoryLine, Bytes, brought, source, unheld}
pub use Rattle.fsb_phase.specs.declared.drive.Drive.{Drive}
pub use Rattle.fsb_phase_run.proofs.Interface.{agree-back, agree-grown, snooped-same, chunk-way, code-shown, live-same}
pub use Rattle.fsb_phase_run.proofs.Interface.{settled-same, shown, shown-now, way-entry, ended-now, responded-now}
pub use Rattle.fsb_phase_run.proofs.Interface.{longer}
pub use Rattle.fsb_signal.specs.Samples.{data_at, known_word, response_of}
unfoldable pub use Rattle.fsb_signal.specs.Samples.{line_at}
pub use Rattle.fsb_tied.specs.RunBytes.{bytes_below, machine_line, HasValues}
pub use Rattle.fsb_tied.proofs.Interface.{IsMoved, answers-in-order, awaited-there, bytes-at-end, ended-number}
pub use Rattle.fsb_tied.proofs.Interface.{ended-parts, moved-below-run, moved-from, moves-from, not-so}
pub use Rattle.fsb_tied.proofs.Interface.{number-responded, answered, ended-before, alone-in-run, begun-want, live-at}
pub use Rattle.fsb_tied.proofs.Interface.{EndsLine, between-data, clock-facts, end-memory, end-on, ending_link}
pub use Rattle.fsb_tied.proofs.Interface.{ends-line, ends-on, line_before_end, memory-kept, no-end-memory, no-response}
pub use Rattle.fsb_tied.proofs.Interface.{puts-line, ungiven, number-ended, orderly-whole, carries-awaited, ended-later}
pub use Rattle.fsb_tied.proofs.Interface.{first-link, link_of, moved-parts, moves-parts, unended-at-response}
pub use Rattle.fsb_tied.proofs.Interface.{winner-four, written-await, at-there, awaiting-loads, awaits-grant}
pub use Rattle.fsb_tied.proofs.Interface.{events-may-happen, links_at, one-end, claimed, granted-await, taking-at}
pub use Rattle.fsb_tied.proofs.Interface.{grant-first, granted-parts, snooped-before-end, granted-owns, oldest-ends}
pub use Rattle.fsb_tied.proofs.Interface.{unlinked, AnswersInOrder, listed-alone, unended-at-end, arrived-ready}
pub use Rattle.fsb_tied.proofs.Interface.{now-below-run, begun-shown, live-request, log-placed}
pub use Rattle.fsb_timely.specs.Grants.{is_ready}
unfoldable pub use Rattle.fsb_timely.specs.Grants.{is_ended, snooped_at, holds_line, is_exclusive, ended_requests}
unfoldable pub use Rattle.fsb_timely.specs.Grants.{is_end_at, begun_at, latest_grant, is_evicted, grant_at, is_granted}
unfoldable pub use Rattle.fsb_timely.specs.Grants.{has_arrived}
pub use Rattle.fsb_timely.specs.Growth.{GrowsTo, IsNext}
unfoldable pub use Rattle.fsb_timely.specs.Growth.{is_last_clock}
pub use Rattle.fsb_timely.proofs.Interface.{each_clock-more, run-ends, snoop-tied, tied-snoop, holds_line-says, at}
pub use Rattle.fsb_timely.proofs.Interface.{below, below-more, follows-script, same-list, whole-completions}
pub use Rattle.fsb_timely.proofs.Interface.{last_where-found, last_where-from, length-moments, past-goes_on}
pub use Rattle.fsb_timely.proofs.Interface.{going-alike, owed-same, is_hit-alike}
unfoldable pub use Rattle.fsb_trace.specs.Outcome.{response_clock_of, does_move, moves_data, is_deferral, does_take}
unfoldable pub use Rattle.fsb_trace.specs.Outcome.{response_code_of}
unfoldable pub use Rattle.fsb_trace.specs.Requests.{live_clock_of, live_count, live_number_of, is_reply}
unfoldable pub use Rattle.fsb_trace.specs.Requests.{live_request_of}
unfoldable pub use Rattle.fsb_trace.specs.Response.{data_clock_of, end_of}
pub use Rattle.fsb_trace.proofs.Interface.{live_clock_of-stays, response_clock_of-stays, end_of-response, end_of-stays}
pub use Rattle.fsb_trace.proofs.Interface.{snoop_end_of-clock, AgreeTo-sym, end_of-moving, line_at-agree}
pub use Rattle.fsb_trace.proofs.Interface.{outcome_of-stays, responds_at-agree, live_clock_of-rises, snoop_end_of-stays}
pub use Rattle.fsb_phase.specs.Due.{is_moving, rank_of}
unfoldable pub use Rattle.fsb_phase.specs.Due.{due_chunk, response_to_now, has_response}
unfoldable pub use Rattle.fsb_phase.specs.Drive.{drive_of, numbered_chunk, has_end_at, phased_at, settled_code}
pub use Rattle.fsb_phase.proofs.Interface.{find-place, find-cases, find-off}
pub use Rattle.fsb_phase_run.specs.Holds.{HoldsRequests}
pub use Rattle.fsb_timely.specs.Past.{SnoopEnd, Grant, Past, Claim, Owing, Moment}
unfoldable pub use Rattle.fsb_timely.specs.Snoops.{live_choice}
pub use Rattle.fsb_timely.specs.Timely.{Timely}
unfoldable pub use Rattle.fsb_timely.specs.Transfers.{has_data_at, settled_of, settles_to_move}
unfoldable pub use Rattle.fsb_trace.specs.Flight.{is_in_flight, is_dropped, is_finished, is_outstanding, outstanding}
unfoldable pub use Rattle.fsb_trace.specs.Timing.{chunk_from}
pub use Rattle.fsb_trace.specs.At.{Trace}
unfoldable pub use Rattle.fsb_trace.specs.At.{responds_at, request_at}
pub use Rattle.fsb_access.proofs.Interface.{Served-append, bytes_at-beside, place-within_line, replayed_values-append}
pub use Rattle.fsb_access.proofs.Interface.{InOrder-empty, InOrder-next, steps_of-append, steps_of-other}
pub use Rattle.fsb_line.proofs.Interface.{sole_is_held, ordered_run, modified_is_sole}
pub use Rattle.fsb_run_laws.specs.Reaches.{Reaches}
unfoldable pub use Rattle.fsb_timely.specs.Hits.{is_dirty, is_hit, is_counted, is_store_on, is_stored_since}
unfoldable pub use Rattle.fsb_timely.specs.Hits.{line_state_of}
unfoldable pub use Rattle.fsb_timely.specs.Moments.{is_got, served_number, is_upgraded, makes_grant, is_snoop_of}
unfoldable pub use Rattle.fsb_timely.specs.Moments.{turns_in, claim_at}
pub use Rattle.fsb_trace.specs.declared.outcome.Outcome.{Outcome}
pub use Rattle.fsb_agent_view.specs.OwnRequests.{request_numbered, is_numbered, new_request, requests_granted}
pub use Rattle.fsb_agent_view.specs.OwnRequests.{requests_without}
pub use Rattle.fsb_agent_run.specs.RunViews.{IsComing, IsAgentOf, state_told, one_if, owing_by, HasLines, HasRequestsOf}
unfoldable pub use Rattle.fsb_agent_run.specs.RunViews.{is_awaited, is_won_below}
pub use Rattle.fsb_agent_run.specs.Stages.{IsViewAfterHit, IsViewAfterSnoop, IsViewOf, IsViewBeforeSnoop}
unfoldable pub use Rattle.fsb_agent_run.specs.Stages.{is_uncancelled, owed_sent, owed_through}
pub use Rattle.fsb_bench_view.specs.declared.decided.Ending.{Ending}
unfoldable pub use Rattle.fsb_timely.specs.Wants.{want_of, outstanding_at, owed}
pub use Rattle.fsb_coherent.specs.Awaits.{Awaited}
unfoldable pub use Rattle.fsb_coherent.specs.Awaits.{awaited_at, awaited_by, owner_at, responded_in, awaited_by_grant}
unfoldable pub use Rattle.fsb_coherent.specs.Awaits.{purpose_of, snoop_end_below}
pub use Rattle.fsb_line.specs.declared.link.Link.{Link}
pub use Rattle.fsb_line.specs.Links.{carries, feeds_memory, any_won, has_late_upgrade, is_won, owns, is_linked}
pub use Rattle.fsb_line.specs.Links.{is_overtaken, newest}
pub use Rattle.fsb_timely.specs.Tied.{IsSnoopOf}
pub use Rattle.fsb_agent_run.specs.BytesOwed.{HasBytesOwed}
unfoldable pub use Rattle.fsb_agent_run.specs.BytesOwed.{claim_given_at, gives_claim, is_given_below, is_pushed}
unfoldable pub use Rattle.fsb_agent_run.specs.BytesOwed.{promise_told, given_since, gives_line_at, is_promised}
pub use Rattle.fsb_lawful.specs.Beginning.{KeepsBounds}
pub use Rattle.fsb_trace.specs.declared.outcome.Outcome.TheVariants.{Granted, Handed, Retried, Deferred, Written}
pub use Rattle.fsb_trace.specs.declared.outcome.Outcome.TheVariants.{Replied, Failed, Upgraded}
pub use Rattle.fsb_cache.specs.declared.held.Held.{Held}
pub use Rattle.fsb_access.specs.Access.{accessed_line, addr_of, is_place, size_of, is_lawful_access}
pub use Rattle.fsb_access.specs.ByteMemory.{ByteMemory, value_at, value_of_bytes, start_memory}
unfoldable pub use Rattle.fsb_access.specs.ByteMemory.{put_value, bytes_at}
pub use Rattle.fsb_access.specs.declared.access.Access.{Access}
pub use Rattle.fsb_cache.specs.LineValues.{value_in_line}
pub use Rattle.fsb_cache.specs.LineValues.{line_with_value}
pub use Rattle.fsb_agent_view.specs.Serving.{AtHand, entries_at_hand, hand_after, hand_after_steps, value_at_hand}
unfoldable pub use Rattle.fsb_coherent.specs.BeforeSnoop.{events_before_snoop}
unfoldable pub use Rattle.fsb_coherent.specs.LineEvents.{entries_on, events_below, snoops_on, is_awaited_for}
unfoldable pub use Rattle.fsb_coherent.specs.LineEvents.{is_brought_to, is_of_other_line, changes_of}
pub use Rattle.fsb_coherent.proofs.Interface.{first-events, links_new, snoop-step, dirty-to, events_below-same}
pub use Rattle.fsb_encode.specs.declared.request.Kind.{Kind}
pub use Rattle.fsb_line.specs.LineRuns.{run}
pub use Rattle.fsb_timely.specs.Completions.{Completed}
unfoldable pub use Rattle.fsb_timely.specs.Completions.{is_in_time, completed_at, completed_if, completed_of_item}
unfoldable pub use Rattle.fsb_timely.specs.Completions.{entries_at, is_arrival, next_accesses, of_all_agents}
pub use Rattle.fsb_agent_view.specs.declared.want.Want.{Want}
pub use Rattle.fsb_agent_view.specs.Wanting.{sent, sets_cleared_for, want_by}
unfoldable pub use Rattle.fsb_agent_run.specs.AgentClocks.{number_asked}
pub use Rattle.fsb_line.specs.declared.purpose.Purpose.{Purpose}
pub use Rattle.fsb_linebuf.specs.declared.entry.Push.{Push}
pub use Rattle.fsb_run_laws.proofs.Interface.{replied-on, begun-wanted, ends-last, owed-told, snoop-below}
pub use Rattle.fsb_run_laws.proofs.Interface.{replied-outstanding, replied-served}
pub use Rattle.fsb_bench_values.specs.BytesOf.{HasBytesOf, HasKept, HasPushes, IsAgentBytes, state_now, HasCopies}
