use Rattle.std.proofs.Common.{◌≡◌, ◌<◌, ◌++◌, List, ℕ, length, subst, sym, ap, arith, ◌∙◌, OnOk}
use Rattle.std.proofs.lemmas.Result.{on_ok_weaker}
use Rattle.fsb_core.specs.Benches.{bench_view}
use Rattle.fsb_io.specs.Appends.{AppendsPart}
use Rattle.fsb_script.specs.View.{plan_view}
use Rattle.fsb_play.proofs.LogLength.{log-fits}
use Rattle.fsb_play.proofs.Summary.{summary-printed}
use Rattle.fsb_play.proofs.output.write_text.Goals as goal

pub write_log-requires : goal.write_log-requires
write_log-requires g c =
    log-fits (bench_view c.args.bench.now).run (plan_view c.plan-plan.result.now) c.access_count-of.result
    c.log-log.result.now c.is_simulated.ensures.timely c.is_simulated.ensures.in_order c.plan-plan.ensures
    c.plan-plan.result.now.few_agents c.access_count-of.ensures.value c.access_count-of.type_inv c.log-log.ensures

pub overflow_cast-log : goal.overflow_cast-log
overflow_cast-log g c =
    let few = log-fits (bench_view c.args.bench.now).run (plan_view c.plan-plan.result.now) c.access_count-of.result
    c.log-log.result.now c.is_simulated.ensures.timely c.is_simulated.ensures.in_order c.plan-plan.ensures
    c.plan-plan.result.now.few_agents c.access_count-of.ensures.value c.access_count-of.type_inv c.log-log.ensures in
    omega (arith, few)

pub returns-in-Summary-clause-whole : goal.returns-in-Summary-clause-whole
returns-in-Summary-clause-whole g c tells =
    let printed = summary-printed c.args.print.now (bench_view c.args.bench.now).run (plan_view c.plan-plan.result.now)
    c.log-log.result.now c.trace.result.now _ _ _ c.access_count-of.result c.request_counts.result _ _ _ _ _ _
    c.in-Summary.is c.plan-plan.ensures c.log-log.ensures c.trace.ensures c.access_count-of.ensures.value
    c.request_counts.ensures c.gen_line-first.ensures c.end_line-last.ensures c.bus_line-bus.ensures
    c.as_slice.ensures.value c.as_slice-in-Summary.ensures.value c.as_slice-in-Summary-2.ensures.value in
    on_ok_weaker c.write_lines.result
    (λ whole. whole ∙ ap (λ (text : List ℕ). g.O.Sink.holds c.args.out.now ++ text) printed)
    (c.write_lines.ensures.whole tells)

pub returns-in-Summary-clause-part : goal.returns-in-Summary-clause-part
returns-in-Summary-clause-part g c tells =
    let printed = summary-printed c.args.print.now (bench_view c.args.bench.now).run (plan_view c.plan-plan.result.now)
    c.log-log.result.now c.trace.result.now _ _ _ c.access_count-of.result c.request_counts.result _ _ _ _ _ _
    c.in-Summary.is c.plan-plan.ensures c.log-log.ensures c.trace.ensures c.access_count-of.ensures.value
    c.request_counts.ensures c.gen_line-first.ensures c.end_line-last.ensures c.bus_line-bus.ensures
    c.as_slice.ensures.value c.as_slice-in-Summary.ensures.value c.as_slice-in-Summary-2.ensures.value in
    subst (λ (text : List ℕ). AppendsPart text (g.O.Sink.holds c.args.out.now) (g.O.Sink.holds c.write_lines.new.out))
    printed (c.write_lines.ensures.part tells)
