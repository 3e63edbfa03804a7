use Rattle.std.proofs.Common.{◌≡◌, ◌<◌, ◌+◌, ◌==◌, ◌||◌, fold, length, sym, ap, ◌∙◌, arith, zero-add}
use Rattle.fsb_agent_view.specs.AgentEvents.{agent_after}
use Rattle.fsb_agent_view.specs.Snooping.{committed}
use Rattle.fsb_bench_view.specs.BusEvents.{snooped_event}
use Rattle.fsb_bus.proofs.Told.{told_over-more}
use Rattle.fsb_bus.proofs.telling.commit_all.Goals as goal

pub loop-agent-preserved : goal.loop-agent-preserved
loop-agent-preserved c =
    let l = c.loop-agent in
    let s = c.args.snooped.now in
    let x = c.agent-item.result in
    let events = snooped_event c.args.snooped.now in
    let within : l.agent-index < length c.args.agents.now = omega (arith, c.loop-agent-test.true) in
    let heard : c.commit.new.self ≡ fold agent_after x (events (0 + l.agent-index)) =
    c.commit.ensures
    ∙ ap (λ v. committed v s.served.first (l.number == s.served.agent) s.served.request
    c.is_shared-shared.result s.outcome) (sym c.agent-item.is)
    ∙ ap (λ shared. committed x s.served.first (l.number == s.served.agent) s.served.request shared s.outcome)
    c.is_shared-shared.ensures
    ∙ ap (λ n. committed x s.served.first (n == s.served.agent) s.served.request (s.hit || s.hitm) s.outcome)
    (l.invariant.number ∙ sym (zero-add l.agent-index)) in
    record {
      agents = told_over-more events 0 c.args.agents.now l.agent-items l.agent-index x c.commit.new.self within
          l.invariant.agents c.agent-item.is heard;
      number = ap (λ n. n + 1) l.invariant.number;
    }
