use Rattle.std.proofs.Common.{◌≡◌, ◌<◌, ◌++◌, [], Some, length, set, sym, ap, ◌∙◌, arith}
use Rattle.std.proofs.lemmas.Option.{slice_get-get_or}
use Rattle.std.specs.Option.{option_map_or}
use Rattle.std.specs.Prelude.{slice_get}
use Rattle.fsb_agent_view.specs.AgentViews.{AgentView}
use Rattle.fsb_bench_view.specs.BusEvents.{agent_ended, end_event, entries_ended}
use Rattle.fsb_bus.proofs.Told.{told-maybe}
use Rattle.fsb_bus.proofs.ending.end_at.Goals as goal

there : (c : goal.After-end_with)
    → slice_get c.args.agents.now c.args.ending.now.served.agent ≡ Some c.index-agents-from.result
there c =
    let within : c.from.result < length c.args.agents.now = omega (arith, c.requires.known, c.from.ensures) in
    ap (slice_get c.args.agents.now) (sym c.from.ensures)
    ∙ slice_get-get_or c.args.agents.now c.from.result c.index-agents-from.result within
    ∙ ap Some (sym c.index-agents-from.is)

pub returns-clause-agents : goal.returns-clause-agents
returns-clause-agents c =
    let e = c.args.ending.now in
    let agents = c.args.agents.now in
    let event = end_event c.args.clock e.served.first c.args.moved.now e.outcome in
    ap (λ n. set agents n c.end_with.new.agent) c.from.ensures
    ∙ ap (set agents e.served.agent) (c.end_with.ensures.agent
    ∙ ap (agent_ended c.args.clock e.served.first c.args.moved.now e.outcome) (sym c.index-agents-from.is))
    ∙ sym (told-maybe e.served.agent event agents c.index-agents-from.result (there c))

pub returns-clause-entries : goal.returns-clause-entries
returns-clause-entries c =
    let e = c.args.ending.now in
    let entries : AgentView → _ = entries_ended c.args.clock e.served.first c.args.moved.now e.outcome in
    c.end_with.ensures.entries
    ∙ ap (λ v. c.args.log.now.entries ++ entries v) (sym c.index-agents-from.is)
    ∙ ap (λ v. c.args.log.now.entries ++ option_map_or entries v []) (sym (there c))
