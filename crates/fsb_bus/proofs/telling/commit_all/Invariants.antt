use Rattle.std.proofs.Common.{◌≡◌, ◌++◌, take, drop}
use Rattle.fsb_bench_view.specs.BusEvents.{snooped_event}
use Rattle.fsb_bench_view.specs.ToldAgents.{agents_told}
use Rattle.fsb_bus.proofs.telling.commit_all.Given as goal

-- the agents before the place have heard of it
abbrev pub invariant-loop-agent : goal.invariant-loop-agent
invariant-loop-agent l = record {
  agents : l.agent-items ≡ agents_told (snooped_event l.snooped) 0 (take l.agent-index l.initial.agent-items)
      ++ drop l.agent-index l.initial.agent-items;
  number : l.number ≡ l.agent-index;
}
