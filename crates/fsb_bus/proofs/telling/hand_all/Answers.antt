use Rattle.std.proofs.Common.{◌<◌, length, set, sym, ap, ◌∙◌, arith}
use Rattle.std.proofs.lemmas.List.Edits.{map_over_more}
use Rattle.fsb_agent_view.specs.Arriving.{hand_by, handed_on}
use Rattle.fsb_bench_view.specs.ToldAgents.{first_of}
use Rattle.fsb_agent_view.specs.AgentViews.{AgentView}
use Rattle.fsb_bus.proofs.Told.{item-before, owed-next}
use Rattle.fsb_bus.proofs.telling.hand_all.Goals as goal

pub loop-agent-preserved : goal.loop-agent-preserved
loop-agent-preserved c =
    let l = c.loop-agent in
    let x = c.agent-item.result in
    let f : AgentView → AgentView = λ v. handed_on v c.args.number in
    let within : l.agent-index < length c.args.agents.now = omega (arith, l.auto.agent-items, c.loop-agent-test.true) in
    let before = item-before f c.args.agents.now l.agent-items l.agent-index x within l.invariant.agents
    c.agent-item.is in
    record {
      agents = ap (λ w. set l.agent-items l.agent-index w) (c.hand-owed.ensures.agent ∙ ap f (sym c.agent-item.is))
          ∙ map_over_more f c.args.agents.now l.agent-items l.agent-index x within l.invariant.agents c.agent-item.is;
      bytes = c.first_of-bytes.ensures
          ∙ ap (first_of l.bytes) (c.hand-owed.ensures.bytes ∙ ap (λ v. hand_by v c.args.number) (sym c.agent-item.is))
          ∙ ap (λ bytes. first_of bytes (hand_by x c.args.number)) l.invariant.bytes
          ∙ sym (owed-next c.args.number c.args.agents.now l.agent-index x within before);
    }
