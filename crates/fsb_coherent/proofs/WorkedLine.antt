-- The events of the line of the clocks by hand are computed.
use Rattle.fsb_coherent.proofs.Words
use Words.{◌≡◌, ◌∷◌, [], refl, first_where, last_where, any_where, from_clock, holds_since, is_some_and}
use Words.{is_upgrade_kind, is_write_back_kind, begun_at, snooped_at, ended_requests, is_end_at, grant_at, set_of}
use Words.{is_rival, is_owning, is_claim_of, is_claim_of_other, is_granted, is_evicted, is_snooped, is_written_back}
use Words.{is_taken_away, is_lost, holds_line, latest_grant, is_ended, has_arrived, is_named_by_other, is_sole_grant}
use Words.{is_exclusive, line_granted_at, lines_granted, is_idle, is_locked, idle_count, is_load, items_of, is_done_by}
use Words.{is_done_at, completes_at, is_logged, is_logged_at, is_to_do, next_number, next_item, last_done, idle_clocks}
use Words.{idle_start, number_after, is_idling, plain_items, window_from, window_at, window, first_chunk, locked_need}
use Words.{plain_need, needs_after, needs_of, needs_from, is_met, is_served, is_hit, is_store_on, is_counted}
use Words.{is_stored_since, is_dirty, is_snoop_of, is_upgraded, entries_to, past_to, is_held_elsewhere, purpose_of}
use Words.{purpose_wanted, is_written, awaited_by_claim, awaited_by_grant, awaited_by, snoop_end_below, awaited_at}
use Words.{owner_at, responded_in, cancelled_in, access_event, awaited_events, cancel_events, awaiting_stores}
use Words.{begin_events, begins_on, cancels_on, claimed_events, end_events, ends_on, entries_on, events_at}
use Words.{events_of_clock, events_of_ends, hits_on, is_awaited_for, is_brought_to, is_of_other_line, moves_on}
use Words.{others_on, responds_on, settled_events, snoop_events, snoops_on}
use Rattle.fsb_timely.specs.Wants.{outstanding_at, unsnooped_at, owed, is_asked_for, is_same_set, is_set_taken}
use Rattle.fsb_timely.specs.Wants.{is_missing, least_of, victim_of, id_of, is_id_used, free_id, may_upgrade}
use Rattle.fsb_timely.specs.Wants.{kind_needed, request_of_kind, write_back_of, want_for, want_of}
use Rattle.fsb_coherent.specs.Worked.{worked_events, worked_past}

pub worked-out : (events_at worked_past 2 3 ∷ events_at worked_past 2 4 ∷ events_at worked_past 2 5
    ∷ events_at worked_past 2 6 ∷ []) ≡ worked_events
unfolding
    first_where last_where any_where from_clock holds_since is_some_and is_upgrade_kind is_write_back_kind
    begun_at snooped_at ended_requests
    is_end_at grant_at set_of is_rival is_owning is_claim_of is_claim_of_other is_granted is_evicted is_snooped
    is_written_back
    is_taken_away is_lost holds_line latest_grant is_ended has_arrived is_named_by_other is_sole_grant
    is_exclusive line_granted_at lines_granted is_idle is_locked idle_count is_load items_of is_done_by is_done_at
    completes_at is_logged is_logged_at is_to_do next_number next_item last_done idle_clocks idle_start number_after
    is_idling plain_items window_from window_at window first_chunk locked_need plain_need needs_after needs_of
    needs_from is_met is_served is_hit is_store_on is_counted is_stored_since is_dirty outstanding_at
    unsnooped_at owed is_asked_for is_same_set is_set_taken is_missing least_of victim_of id_of is_id_used free_id
    may_upgrade kind_needed request_of_kind write_back_of want_for want_of is_snoop_of is_upgraded entries_to
    past_to is_held_elsewhere
    purpose_of purpose_wanted is_written awaited_by_claim awaited_by_grant awaited_by snoop_end_below awaited_at
    owner_at responded_in cancelled_in access_event awaiting_stores begin_events begins_on cancels_on claimed_events
    awaited_events cancel_events end_events ends_on entries_on events_at events_of_clock events_of_ends hits_on
    is_awaited_for is_brought_to
    is_of_other_line moves_on others_on responds_on settled_events snoop_events snoops_on
worked-out = refl
