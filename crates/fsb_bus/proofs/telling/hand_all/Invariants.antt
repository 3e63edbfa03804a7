use Rattle.std.proofs.Common.{◌≡◌, ◌++◌, map, take, drop}
use Rattle.fsb_agent_view.specs.Arriving.{handed_on}
use Rattle.fsb_bench_view.specs.ToldAgents.{bytes_owed}
use Rattle.fsb_bus.proofs.telling.hand_all.Given as goal

-- the agents before the place have handed on, and the bytes are those of the first of them that owes some
abbrev pub invariant-loop-agent : goal.invariant-loop-agent
invariant-loop-agent l = record {
  agents : l.agent-items ≡ map (λ v. handed_on v l.number) (take l.agent-index l.initial.agent-items)
      ++ drop l.agent-index l.initial.agent-items;
  bytes : l.bytes ≡ bytes_owed l.number (take l.agent-index l.initial.agent-items);
}
