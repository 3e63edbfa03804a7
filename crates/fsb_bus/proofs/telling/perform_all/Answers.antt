use Rattle.std.proofs.Common.{◌<◌, ◌++◌, get_or, length, take, set, sym, ap, ◌∙◌, arith, append_assoc}
use Rattle.std.proofs.lemmas.List.Edits.{map_over_more}
use Rattle.std.proofs.lemmas.List.Sums.{sum_by-set}
use Rattle.fsb_agent_view.specs.Completing.{performed, performed_entries}
use Rattle.fsb_bench_view.specs.ToldAgents.{hit_entries}
use Rattle.fsb_bus.specs.LogRoom.{accesses_left}
use Rattle.fsb_bus.proofs.LogRooms.{left-performed}
use Rattle.fsb_agent_view.specs.AgentViews.{AgentView}
use Rattle.fsb_bus.proofs.Told.{hits-next, item-before}
use Rattle.fsb_bus.proofs.telling.perform_all.Goals as goal

pub loop-agent-preserved : goal.loop-agent-preserved
loop-agent-preserved c =
    let l = c.loop-agent in
    let x = c.agent-item.result in
    let f : AgentView → AgentView = λ v. performed v c.args.clock in
    let within : l.agent-index < length c.args.agents.now = omega (arith, l.auto.agent-items, c.loop-agent-test.true) in
    let inside : l.agent-index < length l.agent-items = omega (arith, l.auto.agent-items, within) in
    let before = item-before f c.args.agents.now l.agent-items l.agent-index x within l.invariant.agents
    c.agent-item.is in
    record {
      agents = ap (λ w. set l.agent-items l.agent-index w) (c.perform.ensures.agent ∙ ap f (sym c.agent-item.is))
          ∙ map_over_more f c.args.agents.now l.agent-items l.agent-index x within l.invariant.agents c.agent-item.is;
      entries = c.perform.ensures.entries
          ∙ ap (λ v. l.log.entries ++ performed_entries v c.args.clock) (sym c.agent-item.is)
          ∙ ap (λ entries. entries ++ performed_entries x c.args.clock) l.invariant.entries
          ∙ append_assoc c.args.log.now.entries
          (hit_entries c.args.clock (take l.agent-index c.args.agents.now)) (performed_entries x c.args.clock)
          ∙ ap (λ entries. c.args.log.now.entries ++ entries)
          (sym (hits-next c.args.clock c.args.agents.now l.agent-index x within before));
      room = omega (
        arith,
        l.invariant.room,
        c.perform.ensures.spare,
        left-performed (get_or l.agent-items l.agent-index x) c.args.clock,
        sum_by-set accesses_left l.agent-items l.agent-index c.perform.new.self x inside,
        ap accesses_left c.perform.ensures.agent,
      );
    }
