-- How an agent completes its next item, and when it does so by a hit.
use Rattle.std.specs.Prelude.{ℕ, ◌+◌, Bool, true, false, ◌&&◌, List, [], Some, slice_get}
use Rattle.std.specs.List.{list_all}
use Rattle.std.specs.Option.{option_map_or}
use Rattle.fsb_access.specs.declared.item.Item.{Item}
use Rattle.fsb_access.specs.declared.log.Done.{Done}
use Rattle.fsb_access.specs.ScriptOrder.{Step, steps_of_item}
use Rattle.fsb_timely.specs.Scripts.{needs_of}
use Rattle.fsb_agent_view.specs.Idling.{idle_from, place_from}
use Rattle.fsb_agent_view.specs.Serving.{AtHand, entries_at_hand, hand_after_steps}
use Rattle.fsb_agent_view.specs.AgentViews.{AgentView, is_served_by, may_complete, next_item_by}

-- what the agent's accesses work on
abbrev pub hand_of : AgentView → AtHand
hand_of v = record { lines = v.lines; last = v.last }

-- the accesses of item n of a script
abbrev pub steps_at : List Item → ℕ → List Step
steps_at items n = option_map_or (steps_of_item n) (slice_get items n) []

-- the accesses of its next item
abbrev pub next_steps : AgentView → List Step
next_steps v = steps_at v.items v.place

-- the entries of its next item, completed at a clock
abbrev pub completed_entries : AgentView → ℕ → List Done
completed_entries v clock = entries_at_hand v.number clock (hand_of v) (next_steps v)

-- the agent after it completed its next item at a clock: its accesses are performed, and it goes on behind the idle items
-- that follow, which it idles from the next clock on
abbrev pub completed_by : AgentView → ℕ → AgentView
completed_by v clock =
    let hand = hand_after_steps (hand_of v) (next_steps v) in
    record v {
      lines = hand.lines;
      last = hand.last;
      place = place_from v.items (v.place + 1);
      idle_to = clock + 1 + idle_from v.items (v.place + 1);
      finished = Some record { clock = clock; item = v.place };
    }

-- the agent has a hit at a clock: it may complete its next item, and each of the item's lines serves
abbrev pub is_hit_by : AgentView → ℕ → Bool
is_hit_by v clock = may_complete v clock && option_map_or (λ item. list_all (is_served_by v) (needs_of item)) (next_item_by v) false

-- the agent after its hit at a clock, if it has one
abbrev pub performed : AgentView → ℕ → AgentView
performed v clock = elim (is_hit_by v clock) [ true ↦ completed_by v clock | false ↦ v ]

-- the entries of that hit
abbrev pub performed_entries : AgentView → ℕ → List Done
performed_entries v clock = elim (is_hit_by v clock) [ true ↦ completed_entries v clock | false ↦ [] ]
