use Rattle.std.proofs.Common.{◌≡◌, ◌++◌, map, take, drop}
use Rattle.fsb_agent_view.specs.Completing.{performed}
use Rattle.fsb_bench_view.specs.ToldAgents.{hit_entries}
use Rattle.fsb_bus.specs.LogRoom.{HasLogRoom}
use Rattle.fsb_bus.proofs.telling.perform_all.Given as goal

-- the agents before the place have performed their hits, and the log has their entries
abbrev pub invariant-loop-agent : goal.invariant-loop-agent
invariant-loop-agent l = record {
  agents : l.agent-items ≡ map (λ v. performed v l.clock) (take l.agent-index l.initial.agent-items)
      ++ drop l.agent-index l.initial.agent-items;
  entries : l.log.entries ≡ l.initial.log.entries ++ hit_entries l.clock (take l.agent-index l.initial.agent-items);
  room : HasLogRoom l.agent-items l.log;
}
