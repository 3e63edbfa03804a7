use Rattle.std.proofs.Common.{sym, ap, ◌∙◌, ◌≡◌, List, ℕ, arith, length}
use Rattle.fsb_agent_view.specs.AgentEvents.{Performed}
use Rattle.fsb_bench_view.specs.ToldAgents.{for_all}
use Rattle.fsb_bus.specs.Buses.{bus_view}
use Rattle.fsb_bus.specs.LogRoom.{accesses_left_of}
use Rattle.fsb_bus.specs.declared.bus.Bus.{Bus}
use Rattle.fsb_core.proofs.AgentCounts.{fetch-count, fetch-left, told-count}
use Rattle.fsb_core.proofs.stepping.fetch_and_perform.Goals as goal

moved-on : (old mid new : Bus) → mid ≡ record old { agents = mid.agents; moved = mid.moved }
    → new ≡ record mid { agents = new.agents }
    → new ≡ record old { agents = new.agents; moved = new.moved }
moved-on old mid new first second =
    let with_agents : Bus → Bus = λ b. record b { agents = new.agents } in
    let with_moved : List ℕ → Bus = λ m. record old { agents = new.agents; moved = m } in
    second ∙ ap with_agents first ∙ ap with_moved (sym (ap (λ b. b.moved) second))

pub perform-requires : goal.perform-requires
perform-requires c = record {
  room = let same = ap (λ b. accesses_left_of b.agents) c.fetch.ensures.view
      ∙ fetch-left (bus_view c.args.bus.now) c.bytes_source-from.result in omega (arith, same, c.requires);
}

pub returns-clause-count : goal.returns-clause-count
returns-clause-count c =
    ap (λ b. length b.agents) c.perform.ensures.view
    ∙ told-count (for_all (Performed c.args.clock)) 0 c.fetch.new.self.agents.items
    ∙ ap (λ b. length b.agents) c.fetch.ensures.view
    ∙ fetch-count (bus_view c.args.bus.now) c.bytes_source-from.result

pub returns-clause-rest : goal.returns-clause-rest
returns-clause-rest c = moved-on c.args.bus.now c.fetch.new.self c.perform.new.self c.fetch.ensures.rest
    c.perform.ensures.rest
