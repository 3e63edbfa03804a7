use Rattle.std.proofs.Common.{◌≡◌, ◌+◌, ◌*◌, ◌^◌, ◌≤◌, drop}
use Rattle.fsb_agent_view.specs.Idling.{idle_clocks_in_front, idle_count_in_front}
use Rattle.fsb_agent.proofs.idling.idle_in_front.Given as goal

-- the items before the place are idle, and are counted
abbrev pub invariant-loop-item : goal.invariant-loop-item
invariant-loop-item l =
    (l.count + idle_count_in_front (drop l.item-index l.items) ≡ idle_count_in_front l.items)
    × (l.clocks + idle_clocks_in_front (drop l.item-index l.items) ≡ idle_clocks_in_front l.items)
    × (l.count ≤ l.item-index)
    × (l.clocks ≤ 2 ^ 32 * l.item-index)
