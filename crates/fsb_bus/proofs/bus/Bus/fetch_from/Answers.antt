use Rattle.std.proofs.Common.{map, Some, sym, ap, ◌∙◌}
use Rattle.std.proofs.lemmas.List.{with_items_is}
use Rattle.fsb_agent_view.specs.Arriving.{handed_on}
use Rattle.fsb_bench_view.specs.BytesFetched.{bus_fetched}
use Rattle.fsb_bench_view.specs.ToldAgents.{bytes_owed}
use Rattle.fsb_bus.specs.Buses.{bus_view}
use Rattle.fsb_bus.proofs.BusSteps.{fetched-none, fetched-some}
use Rattle.fsb_bus.proofs.bus.Bus.fetch_from.Goals as goal

pub returns-in-Some-clause-view : goal.returns-in-Some-clause-view
returns-in-Some-clause-view c =
    let v = bus_view c.args.self.now in
    let number = c.in-Agents.number in
    let items = with_items_is c.args.self.now.agents c.hand_all.new.agents (c.hand_all.auto.agents
    ∙ c.as_mut_slice.ensures.len) in
    ap (λ agents. record v { agents = agents; moved = c.in-Some.bytes }) items
    ∙ fetched-some v number c.hand_all.new.agents c.in-Some.bytes
    (c.hand_all.ensures.agents ∙ ap (map (λ a. handed_on a number)) c.as_mut_slice.ensures.value)
    (ap (bytes_owed number) (sym c.as_mut_slice.ensures.value) ∙ sym c.hand_all.ensures.bytes ∙ c.in-Some.is)
    ∙ ap (λ from. bus_fetched v (Some from)) (sym c.in-Agents.is)

pub returns-in_default-clause-view : goal.returns-in_default-clause-view
returns-in_default-clause-view c =
    let v = bus_view c.args.self.now in
    let number = c.in-Agents.number in
    let items = with_items_is c.args.self.now.agents c.hand_all.new.agents (c.hand_all.auto.agents
    ∙ c.as_mut_slice.ensures.len) in
    ap (λ agents. record v { agents = agents }) items
    ∙ fetched-none v number c.hand_all.new.agents
    (c.hand_all.ensures.agents ∙ ap (map (λ a. handed_on a number)) c.as_mut_slice.ensures.value)
    (ap (bytes_owed number) (sym c.as_mut_slice.ensures.value) ∙ sym c.hand_all.ensures.bytes ∙ c.in_default.is)
    ∙ ap (λ from. bus_fetched v (Some from)) (sym c.in-Agents.is)
