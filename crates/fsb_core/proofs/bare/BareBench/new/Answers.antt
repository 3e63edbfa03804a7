use Rattle.std.proofs.Common.{◌≡◌, ◌≤◌, List, length, sym, subst, ap, ◌∙◌, arith}
use Rattle.fsb_script.specs.View.{plan_view}
use Rattle.fsb_signal.specs.declared.sample.Sample.{Sample}
use Rattle.fsb_plan_size.specs.AccessCount.{access_count}
use Rattle.fsb_bus.specs.Buses.{StandsFor}
use Rattle.fsb_bench_view.specs.FirstBench.{first_agents}
use Rattle.fsb_bus.specs.LogRoom.{accesses_left_of}
use Rattle.fsb_core.proofs.FirstParts.{first-left}
use Rattle.fsb_core.proofs.bare.BareBench.new.Goals as goal

pub returns-clause-fit : goal.returns-clause-fit
returns-clause-fit c =
    let plan = c.args.plan in
    let bus = c.in_ok-bus.bus in
    let S : List Sample → Type 0 = StandsFor bus in
    let no_trace : length c.in_ok-trace.trace.items ≡ 0 = ap length c.in_ok-trace.ensures.items in
    let no_holds : length c.in_ok-holds.holds.items ≡ 0 = ap length c.in_ok-holds.ensures.items in
    let no_choices : length c.in_ok-choices.choices.items ≡ 0 = ap length c.in_ok-choices.ensures.items in
    let no_starts : length bus.started.items ≡ 0 = ap (λ b. length b.started) c.in_ok-bus.ensures.view in
    let left : accesses_left_of bus.agents.items ≤ access_count plan.scripts =
    let same : accesses_left_of bus.agents.items ≡ accesses_left_of (first_agents (plan_view plan)) =
    ap (λ b. accesses_left_of b.agents) c.in_ok-bus.ensures.view in
    omega (arith, same, first-left (plan_view plan)) in
    record {
      stands = subst S (sym c.in_ok-trace.ensures.items) c.in_ok-bus.ensures.stands;
      agents = ap (λ b. length b.agents) c.in_ok-bus.ensures.view;
      started = no_starts ∙ sym no_choices;
      named = c.in_ok-bus.ensures.named;
      clocks = omega (arith, no_trace);
      holds = no_holds ∙ sym no_trace;
      choices = omega (arith, no_trace, no_choices);
      log_room = omega (arith, left, c.access_count.ensures.value, c.in_ok-log.ensures.1);
      trace_room = omega (arith, c.in_ok-trace.ensures.exact);
      choice_room = omega (arith, c.in_ok-choices.ensures.exact);
      hold_room = omega (arith, c.in_ok-holds.ensures.exact);
      start_room = c.in_ok-bus.ensures.room;
    }
