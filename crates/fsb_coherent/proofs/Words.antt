-- The words and lemmas of the crates below that the proofs of this crate cite, passed on in one place.

pub use Rattle.std.proofs.Common.{ℕ, arith, ◌+◌, ◌≡◌, Bool, true, false, not, ◌&&◌, nat_eq, Option, Some, refl, sym, ap}
pub use Rattle.std.proofs.Common.{◌∙◌, if◌then◌else◌, [], ◌∷◌, None, inl, inr, zero, suc, ◌<◌, List, ◌++◌, subst}
pub use Rattle.std.proofs.Common.{add-one, ◌≢◌, ◌||◌, nat_lt, slice_get, ◌≤◌, ◌==◌, is_some, length, map, take}
pub use Rattle.std.proofs.Common.{append-nil, append_assoc, slice_index, cond}
pub use Rattle.std.proofs.lemmas.Bool.{eq-eqb, true≢false, cases_Bool, eqb-true, ne_eqb, or_from, or_parts, and_from}
pub use Rattle.std.proofs.lemmas.Bool.{and_parts, both_ways, ltb-true, not-true, not_from_false, or_cases, or_left}
pub use Rattle.std.proofs.lemmas.Bool.{or_right, false_from_ne_true, and_right, cases_lt, eqb-false, le-leb}
pub use Rattle.std.specs.Option.{option_map_or, option_and_then, option_map}
pub use Rattle.std.specs.List.{list_all, list_any, filter}
pub use Rattle.std.proofs.Math.Bool.{and-true, and-false, or_assoc, or-false}
unfoldable pub use Rattle.fsb_count.specs.Clocks.{any_where, holds_since, last_where, from_clock, first_where}
pub use Rattle.fsb_line.specs.Line.{Bytes, unheld, MemoryLine, OpenRequest, LineDeferral, brought, source}
unfoldable pub use Rattle.fsb_line.specs.Line.{put, trimmed}
pub use Rattle.fsb_timely.specs.Past.{Past, Claim, SnoopEnd, Grant}
pub use Rattle.fsb_timely.specs.Grants.{is_ready}
unfoldable pub use Rattle.fsb_timely.specs.Grants.{holds_line, is_exclusive, begun_at, is_evicted, is_rival, grant_at}
unfoldable pub use Rattle.fsb_timely.specs.Grants.{is_granted, is_lost, is_named_by_other, snooped_at, has_arrived}
unfoldable pub use Rattle.fsb_timely.specs.Grants.{is_ended, is_sole_grant, latest_grant, ended_requests, is_end_at}
unfoldable pub use Rattle.fsb_timely.specs.Grants.{set_of, is_taken_away, is_written_back, is_claim_of}
unfoldable pub use Rattle.fsb_timely.specs.Grants.{is_claim_of_other, is_snooped, is_owning, line_granted_at}
unfoldable pub use Rattle.fsb_timely.specs.Grants.{lines_granted}
unfoldable pub use Rattle.fsb_count.specs.Options.{is_some_and, is_at}
unfoldable pub use Rattle.fsb_timely.specs.Hits.{is_dirty, is_counted, is_hit, is_stored_since, is_store_on, is_met}
unfoldable pub use Rattle.fsb_timely.specs.Hits.{is_served}
pub use Rattle.fsb_line.specs.declared.link.Link.{Link}
pub use Rattle.fsb_line.specs.States.{is_held, is_modified, is_sole, is_held_off, suits, kind_owns, after_snoop}
pub use Rattle.fsb_line.specs.States.{granted, asks_line, gets_line}
pub use Rattle.fsb_line.specs.Events.{Event, HasArrived, MayBegin, IsReady, AwaitsResponse, IsOldest, MaySettle}
pub use Rattle.fsb_line.specs.Events.{NobodyElseHolds, NobodyElseModified}
unfoldable pub use Rattle.fsb_line.specs.Events.{May, after, effect, arrived, oldest_ended, responded, given, linked}
unfoldable pub use Rattle.fsb_line.specs.Events.{settled, replied}
pub use Rattle.fsb_line.specs.Events.Event.{IsCancelled, Drops, Ends, Begins, Loads, Stores, Responds, IsDeferred}
pub use Rattle.fsb_line.specs.Events.Event.{IsGranted, IsHanded, IsLost, IsRetried, IsUpgraded, IsWritten, IsReplied}
pub use Rattle.fsb_line.specs.LineRuns.{MayRun, run}
pub use Rattle.fsb_line.proofs.Interface.{ordered_run, ordered_unheld, valued_run, valued_unheld, modified_is_sole}
pub use Rattle.fsb_line.proofs.Interface.{granted_owns}
pub use Rattle.fsb_count.proofs.Interface.{nat_lt-more, any_where-at, any_where-found, any_where-more, any_where-same}
pub use Rattle.fsb_count.proofs.Interface.{any_where-none, first_where-found, nat_eq-sym, any_where-off}
pub use Rattle.fsb_count.proofs.Interface.{last_where-passed, last_where-failed, first_where-same}
pub use Rattle.fsb_access.specs.declared.log.Done.{Done}
unfoldable pub use Rattle.fsb_timely.specs.Scripts.{is_load, is_idle, is_locked, idle_count, items_of, is_done_by}
unfoldable pub use Rattle.fsb_timely.specs.Scripts.{is_done_at, completes_at, is_logged, is_logged_at, is_to_do}
unfoldable pub use Rattle.fsb_timely.specs.Scripts.{next_number, next_item, last_done, idle_clocks, idle_start}
unfoldable pub use Rattle.fsb_timely.specs.Scripts.{number_after, is_idling, plain_items, window_from, window_at}
unfoldable pub use Rattle.fsb_timely.specs.Scripts.{window, first_chunk, locked_need, plain_need, needs_after, needs_of}
unfoldable pub use Rattle.fsb_timely.specs.Scripts.{needs_from}
pub use Rattle.fsb_access.specs.Access.{accessed_line}
pub use Rattle.fsb_line.specs.Links.{is_linked, carries}
pub use Rattle.fsb_timely.proofs.Interface.{is_exclusive-more, latest_grant-more, past-same, holds_line-more}
pub use Rattle.fsb_timely.proofs.Interface.{is_ended-more, going-alike, rival-same, moment-snooped, run_to-agrees}
pub use Rattle.fsb_timely.proofs.Interface.{snoop_of, snooped-there, tied-snoop, below_le, done_below, holds_line-same}
pub use Rattle.fsb_timely.proofs.Interface.{is_dirty-alike, is_hit-alike, want_of-alike}
pub use Rattle.fsb_line.specs.declared.state.Mesi.TheVariants.{Invalid, Modified, Shared}
pub use Rattle.fsb_timely.specs.Runs.{Run}
unfoldable pub use Rattle.fsb_timely.specs.Runs.{past_of, entries_to, past_to, moments_below, run_to}
pub use Rattle.fsb_timely.specs.Growth.{IsNext, IsWhole, GoesOn}
pub use Rattle.fsb_line.specs.declared.purpose.Purpose.{Purpose}
pub use Rattle.fsb_line.specs.Coherence.{Valued, Ordered}
unfoldable pub use Rattle.fsb_timely.specs.Moments.{is_snoop_of, claim_at, effective_choice, gives_line, grant_for}
unfoldable pub use Rattle.fsb_timely.specs.Moments.{grant_of, live_claim_of, number_of_turn, served_number}
unfoldable pub use Rattle.fsb_timely.specs.Moments.{snoop_end_with, turns_in, is_got, is_upgraded, makes_grant}
pub use Rattle.fsb_line.specs.declared.state.Mesi.{Mesi}
unfoldable pub use Rattle.fsb_timely.specs.Snoops.{is_held_elsewhere}
pub use Rattle.fsb_hazard.specs.declared.choice.Turn.{Turn}
pub use Rattle.fsb_trace.specs.declared.outcome.Outcome.{Outcome}
unfoldable pub use Rattle.fsb_trace.specs.Outcome.{settled_by, settled_outcome_of, is_deferral}
unfoldable pub use Rattle.fsb_trace.specs.Requests.{is_reply, live_clock_of, live_request_of, is_write_back_kind}
unfoldable pub use Rattle.fsb_trace.specs.Requests.{is_upgrade_kind}
pub use Rattle.fsb_encode.specs.declared.request.Kind.{Kind}
pub use Rattle.fsb_trace.specs.declared.outcome.Outcome.TheVariants.{Handed, Granted, Retried, Deferred, Written}
pub use Rattle.fsb_trace.specs.declared.outcome.Outcome.TheVariants.{Upgraded}
pub use Rattle.fsb_coherent.specs.Relation.{Tied, IsOpen}
unfoldable pub use Rattle.fsb_coherent.specs.Relation.{chain_below, deferral_below, is_dirty_below, is_moved_below}
unfoldable pub use Rattle.fsb_coherent.specs.Relation.{links_left, link_for, is_cancelled_below, is_stored_below}
unfoldable pub use Rattle.fsb_coherent.specs.Relation.{is_dirty_through, is_dirtying, link_left, defers_line}
unfoldable pub use Rattle.fsb_coherent.specs.Relation.{is_responded_below, replies_line, deferral_at, deferred_to}
unfoldable pub use Rattle.fsb_coherent.specs.Relation.{giver_at, purpose_at, purpose_granted, is_moved_for}
unfoldable pub use Rattle.fsb_coherent.specs.Relation.{is_snooped_below}
pub use Rattle.fsb_coherent.specs.Awaits.{Awaited}
unfoldable pub use Rattle.fsb_coherent.specs.Awaits.{awaited_by, cancelled_in, awaited_at, purpose_wanted, responded_in}
unfoldable pub use Rattle.fsb_coherent.specs.Awaits.{owner_at, awaited_by_claim, awaited_by_grant, purpose_of}
unfoldable pub use Rattle.fsb_coherent.specs.Awaits.{is_written, snoop_end_below}
pub use Rattle.fsb_coherent.specs.Facts.{BeginsInOrder, ClockFacts, SettlesInOrder, EndsInOrder, IsBegunRightly}
pub use Rattle.fsb_coherent.specs.Facts.{AccessesServed, RespondsAsOldest, IsSettledOn, IsRepliedOn}
unfoldable pub use Rattle.fsb_coherent.specs.Facts.{does_respond_on, is_served_other, does_end_on, suits_holder}
unfoldable pub use Rattle.fsb_coherent.specs.Facts.{is_served_hit}
unfoldable pub use Rattle.fsb_coherent.specs.LineEvents.{cancel_events, cancels_on, events_at, events_below, entries_on}
unfoldable pub use Rattle.fsb_coherent.specs.LineEvents.{is_brought_to, is_of_other_line, is_awaited_for, begin_events}
unfoldable pub use Rattle.fsb_coherent.specs.LineEvents.{awaited_events, awaiting_stores, changes_of, end_events}
unfoldable pub use Rattle.fsb_coherent.specs.LineEvents.{ends_on, events_of_ends, events_of_clock, begins_on, hits_on}
unfoldable pub use Rattle.fsb_coherent.specs.LineEvents.{responds_on, others_on, snoops_on, access_event, change_of}
unfoldable pub use Rattle.fsb_coherent.specs.LineEvents.{claimed_events, settled_events, snoop_events, moves_on}
pub use Rattle.fsb_coherent.specs.KeepsTie.{IsTiedTo, KeepsTie}
pub use Rattle.fsb_coherent.specs.BeforeSnoop.{IsOpenThrough, TiedThrough}
unfoldable pub use Rattle.fsb_coherent.specs.BeforeSnoop.{events_before_snoop, events_from_snoop}
pub use Rattle.fsb_coherent.specs.Fitting.{IsUncontested, IsSnoopOn}
unfoldable pub use Rattle.fsb_coherent.specs.Fitting.{fits_getting, fits_kind, fits_upgrade, fits_write_back}
unfoldable pub use Rattle.fsb_coherent.specs.Fitting.{is_granted_by, is_lost_by}
