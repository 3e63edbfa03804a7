use Rattle.std.proofs.Common.{◌≡◌, ◌+◌, ◌∷◌, ◌++◌, [], length, sym, ap, ◌∙◌, arith, length-append}
use Rattle.std.specs.Prelude.{slice_index_or}
use Rattle.fsb_core.specs.Benches.{bench_view}
use Rattle.fsb_probe.specs.Weights.{total_weight}
use Rattle.example_probe.specs.Responses.{response_weight}
use Rattle.example_probe.proofs.Totals.{one_more, one_light, read_behind}
use Rattle.example_probe.proofs.watch.Goals as goal

pub loop-bench-init : goal.loop-bench-init
loop-bench-init g c = record {
  counted = c.requires.cleared ∙ sym (ap (total_weight response_weight) c.requires.fresh);
  few = omega (arith, c.requires.cleared);
}

pub loop-bench-preserved : goal.loop-bench-preserved
loop-bench-preserved g c =
    let old = (bench_view c.loop-bench.bench).run in
    let new = (bench_view c.step.new.self).run in
    let next = c.step.ensures.asked.next in
    let x = c.index-trace-clock.result in
    let trace : new.trace ≡ old.trace ++ x ∷ [] =
    read_behind old.trace new.trace next.sample x c.clock-clock.result next.more_trace c.clock-clock.ensures
    (c.index-trace-clock.is ∙ ap (λ w. slice_index_or w c.clock-clock.result x) c.trace.ensures) in
    let long : length new.trace ≡ length old.trace + 1 =
    ap length trace ∙ length-append old.trace (x ∷ []) in
    let light = one_light x in
    record {
      counted = c.see.ensures.counted
          ∙ ap (λ n. n + response_weight x) c.loop-bench.invariant.counted
          ∙ sym (ap (total_weight response_weight) trace ∙ one_more old.trace x);
      few = omega (arith, long, light, c.see.ensures.counted, c.loop-bench.invariant.few);
    }

pub see-requires : goal.see-requires
see-requires g c = omega (arith, c.loop-bench.invariant.few, c.clock-clock.ensures)
