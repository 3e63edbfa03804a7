use Rattle.std.proofs.Common.{map, sym, ap, ◌∙◌}
use Rattle.std.proofs.lemmas.List.{with_items_is}
use Rattle.fsb_agent_view.specs.AgentEvents.{Performed}
use Rattle.fsb_agent_view.specs.Completing.{performed}
use Rattle.fsb_bus.specs.Buses.{bus_view}
use Rattle.fsb_bus.proofs.Told.{told-all}
use Rattle.fsb_bus.proofs.bus.Bus.perform.Goals as goal

pub returns-clause-view : goal.returns-clause-view
returns-clause-view c =
    ap (λ agents. record (bus_view c.args.self.now) { agents = agents })
    (with_items_is c.args.self.now.agents c.perform_all.new.agents (c.perform_all.auto.agents
    ∙ c.as_mut_slice.ensures.len)
    ∙ c.perform_all.ensures.agents
    ∙ ap (map (λ v. performed v c.args.clock)) c.as_mut_slice.ensures.value
    ∙ sym (told-all (Performed c.args.clock) 0 c.args.self.now.agents.items))
