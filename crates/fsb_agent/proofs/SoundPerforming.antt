-- An agent that completes its next item stays sound.
use Rattle.std.proofs.Common.{ℕ, ◌+◌, ◌<◌, ◌≡◌, Bool, true, false, Option, Some, None, length, refl, ◌∙◌, inl, inr}
use Rattle.std.specs.List.{list_all}
use Rattle.std.specs.Option.{option_map_or}
use Rattle.std.proofs.lemmas.Bool.{cases_Bool}
use Rattle.fsb_access.specs.declared.item.Item.{Item}
use Rattle.fsb_cache.specs.Sets.{CacheSets}
use Rattle.fsb_timely.specs.Scripts.{needs_of}
use Rattle.fsb_agent_view.specs.declared.want.Finished.{Finished}
use Rattle.fsb_agent_view.specs.AgentViews.{AgentView, has_come, is_served_by, may_complete, next_item_by}
use Rattle.fsb_agent_view.specs.Completing.{completed_by, hand_of, is_hit_by, next_steps, performed}
use Rattle.fsb_agent_view.specs.Idling.{idle_from, place_from}
use Rattle.fsb_agent_view.specs.Serving.{hand_after_steps}
use Rattle.fsb_agent_view.specs.Sound.{IsPlaced, IsSound}
use Rattle.fsb_agent_view.proofs.Interface.{both_left, both_right, busy_from, list_all-from}
use Rattle.fsb_agent.proofs.Lowered.{sound-lowered}
use Rattle.fsb_agent.proofs.Performing.{holds_need, servable-met}
use Rattle.fsb_agent.proofs.Stored.{IsAlike, alike-steps, lowered-alike, steps-servable}

-- the agent has a next item, whose needs these lines meet
pub record IsMetOn (v : AgentView) (lines : CacheSets) : Type 0 where
  pub item : Item
  pub there : next_item_by v ≡ Some item
  pub met : list_all (holds_need lines) (needs_of item) ≡ true

-- where there is an item that passes, there is an item
pub item_of : (test : Item → Bool) (next : Option Item) → option_map_or test next false ≡ true
    → (item : Item) × (next ≡ Some item) × (test item ≡ true)
item_of test None never = absurd (let h : ⊥ = cc in h)
item_of test (Some item) passes = (item, refl, passes)

pub met-hit : (v : AgentView) (clock : ℕ) → is_hit_by v clock ≡ true → IsMetOn v v.lines
met-hit v clock hit =
    let next = item_of (λ item. list_all (is_served_by v) (needs_of item)) (next_item_by v)
    (both_right (may_complete v clock) _ hit) in
    record {
      item = next.0;
      there = next.1;
      met = list_all-from (is_served_by v) (holds_need v.lines) (needs_of next.0)
          (λ need h. both_left (holds_need v.lines need) (has_come v need.line) h) next.2;
    }

-- the lines after its accesses are alike
pub alike-next : (v : AgentView) → 0 < length v.lines → IsMetOn v v.lines
    → IsAlike v.lines (hand_after_steps (hand_of v) (next_steps v)).lines
alike-next v some next =
    rw next.there
    (alike-steps (hand_of v) _ some (steps-servable v.lines v.place next.item
    ∙ servable-met v.lines next.item next.met))

pub sound-placed : (v : AgentView) (place idle_to last : ℕ) (finished : Option Finished)
    → IsPlaced v.items place finished → IsSound v
    → IsSound (record v { place = place; idle_to = idle_to; finished = finished; last = last })
sound-placed v place idle_to last finished placed s = record {
  number = s.number;
  some_lines = s.some_lines;
  in_sets = s.in_sets;
  script = s.script;
  some_ahead = s.some_ahead;
  few_ahead = s.few_ahead;
  profile = s.profile;
  placed = placed;
  few_outs = s.few_outs;
  apart = s.apart;
  requests = s.requests;
  fills = s.fills;
  one_a_line = s.one_a_line;
  lent = s.lent;
  few_owed = s.few_owed;
}

-- where it goes on, and what it completed, are no idle items
pub placed-completed : (v : AgentView) (clock : ℕ) → IsPlaced v.items v.place v.finished
    → IsPlaced v.items (place_from v.items (v.place + 1)) (Some record { clock = clock; item = v.place })
placed-completed v clock placed = record { next = busy_from v.items (v.place + 1); before = placed.next }

pub sound_completed : (v : AgentView) (clock : ℕ) → IsMetOn v v.lines → IsSound v → IsSound (completed_by v clock)
sound_completed v clock next s =
    let hand = hand_after_steps (hand_of v) (next_steps v) in
    sound-placed (record v { lines = hand.lines }) (place_from v.items (v.place + 1))
    (clock + 1 + idle_from v.items (v.place + 1)) hand.last
    (Some record { clock = clock; item = v.place }) (placed-completed v clock s.placed)
    (sound-lowered v hand.lines (lowered-alike v.lines hand.lines (alike-next v s.some_lines next)) s)

pub sound_performed : (v : AgentView) (clock : ℕ) → IsSound v → IsSound (performed v clock)
sound_performed v clock s =
    elim (cases_Bool (is_hit_by v clock)) [
      | inl hit ↦ rw (hit, performed) (sound_completed v clock (met-hit v clock hit) s)
      | inr not_hit ↦ rw (not_hit, performed) s
    ]
