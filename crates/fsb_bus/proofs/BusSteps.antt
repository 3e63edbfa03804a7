-- What the steps of a bus leave as it is.
use Rattle.std.proofs.Common.{◌≡◌, ℕ, false, List, map, Some, None, sym, ap, ◌∙◌}
use Rattle.std.specs.Option.{option_map_or}
use Rattle.fsb_agent_view.specs.AgentEvents.{HandedOn}
use Rattle.fsb_agent_view.specs.AgentViews.{AgentView}
use Rattle.fsb_agent_view.specs.Arriving.{handed_on}
use Rattle.fsb_bridge.specs.Deferrals.{with_reply}
use Rattle.fsb_queue.specs.declared.entry.Entry.{Entry}
use Rattle.fsb_trace.specs.declared.who.Who.{Who}
use Rattle.fsb_trace.specs.declared.who.Who.TheVariants.{Priority}
use Rattle.fsb_bench_view.specs.declared.decided.BytesFrom.TheVariants.{Agents}
use Rattle.fsb_bench_view.specs.BusViews.{BusView}
use Rattle.fsb_bench_view.specs.BusEvents.{bus_cancelled, cancelled_event, starting_event, waiting_cancelled}
use Rattle.fsb_bench_view.specs.BytesFetched.{bus_fetched}
use Rattle.fsb_bench_view.specs.ToldAgents.{agents_told, bytes_owed, for_all}
use Rattle.fsb_bus.proofs.Told.{told-all, told-none}

-- a reply that is cancelled is nothing to the agents
pub cancelled-reply : (bus : BusView) (entry : Entry) → entry.who ≡ Priority
    → bus_cancelled bus entry
    ≡ record bus {
      bridge =
          record bus.bridge { waiting = map (with_reply entry.request.did false) bus.bridge.waiting };
    }
cancelled-reply bus entry is =
    ap
    (λ who. record bus {
      agents = agents_told (cancelled_event entry.clock who) 0 bus.agents;
      bridge = record bus.bridge { waiting = waiting_cancelled entry.request.did who bus.bridge.waiting };
    })
    is
    ∙ ap (λ agents. record bus {
      agents = agents;
      bridge = record bus.bridge { waiting = map (with_reply entry.request.did false) bus.bridge.waiting };
    })
    (told-none 0 bus.agents)

-- a reply that begins is nothing to the agents
pub told-reply : (clock : ℕ) (who : Who) (agents : List AgentView) → who ≡ Priority
    → agents_told (starting_event clock who) 0 agents ≡ agents
told-reply clock who agents is = ap (λ who. agents_told (starting_event clock who) 0 agents) is ∙ told-none 0 agents

-- the bytes that an agent hands on are fetched
pub fetched-some : (bus : BusView) (number : ℕ) (agents : List AgentView) (bytes : List ℕ)
    → agents ≡ map (λ v. handed_on v number) bus.agents → bytes_owed number bus.agents ≡ Some bytes
    → record bus { agents = agents; moved = bytes } ≡ bus_fetched bus (Some (Agents number))
fetched-some bus number agents bytes told owed =
    ap (λ agents. record bus { agents = agents; moved = bytes }) (told ∙ sym (told-all (HandedOn number) 0 bus.agents))
    ∙ ap
    (λ bytes. record bus {
      agents = agents_told (for_all (HandedOn number)) 0 bus.agents;
      moved = option_map_or (λ bytes. bytes) bytes bus.moved;
    })
    (sym owed)

-- where no agent has any, the bytes stay
pub fetched-none : (bus : BusView) (number : ℕ) (agents : List AgentView)
    → agents ≡ map (λ v. handed_on v number) bus.agents → bytes_owed number bus.agents ≡ None
    → record bus { agents = agents } ≡ bus_fetched bus (Some (Agents number))
fetched-none bus number agents told owed =
    ap (λ agents. record bus { agents = agents }) (told ∙ sym (told-all (HandedOn number) 0 bus.agents))
    ∙ ap
    (λ bytes. record bus {
      agents = agents_told (for_all (HandedOn number)) 0 bus.agents;
      moved = option_map_or (λ bytes. bytes) bytes bus.moved;
    })
    (sym owed)
