-- Events with their clocks, and all that is computed with.
use Rattle.std.proofs.Common.{ℕ, zero, suc, Bool, true, List, [], ◌++◌, map}
use Rattle.fsb_line.specs.Events.{Event}
use Rattle.fsb_timely.specs.Past.{Past}
use Rattle.rows_timely.proofs.Interface.{opened}
use Rattle.fsb_coherent.specs.Awaits.{purpose_of, purpose_wanted, is_written, awaited_by_claim, awaited_by_grant}
use Rattle.fsb_coherent.specs.Awaits.{awaited_by, snoop_end_below, awaited_at, owner_at, responded_in, cancelled_in}
use Rattle.fsb_coherent.specs.LineEvents.{access_event, awaited_events, cancel_events, awaiting_stores, begin_events}
use Rattle.fsb_coherent.specs.LineEvents.{begins_on, cancels_on, claimed_events, end_events, ends_on, entries_on}
use Rattle.fsb_coherent.specs.LineEvents.{events_at, events_of_clock, events_of_ends, hits_on, is_awaited_for}
use Rattle.fsb_coherent.specs.LineEvents.{is_brought_to, is_of_other_line, moves_on, others_on, responds_on}
use Rattle.fsb_coherent.specs.LineEvents.{settled_events, snoop_events, snoops_on}

-- an event, and the clock of the run at which it is
pub record Dated : Type 0 where
  pub at : ℕ
  pub event : Event

abbrev pub dated : ℕ → Event → Dated
dated at event = record { at = at; event = event }

-- the events of a line below clock n, each with its clock
abbrev pub dated_below : Past → ℕ → ℕ → List Dated
dated_below p line zero = []
dated_below p line (suc c) = dated_below p line c ++ map (dated c) (events_at p line c)

-- the events alone
abbrev pub events_of : List Dated → List Event
events_of events = map (λ d. d.event) events

-- all that the events of a run compute with
unfoldable pub computed : Bool
unfolding
    opened purpose_of purpose_wanted is_written awaited_by_claim awaited_by_grant awaited_by snoop_end_below awaited_at
    owner_at responded_in cancelled_in access_event awaiting_stores begin_events begins_on cancels_on claimed_events
    awaited_events cancel_events end_events ends_on entries_on events_at events_of_clock events_of_ends hits_on
    is_awaited_for is_brought_to
    is_of_other_line moves_on others_on responds_on settled_events snoop_events snoops_on
computed = true
