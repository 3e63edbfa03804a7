use Rattle.std.proofs.Common.{arith, ◌∙◌}
use Rattle.fsb_probe.proofs.Totals.{total_more}
use Rattle.fsb_probe.proofs.watching.watch_one.Goals as goal

pub loop-sample-preserved : goal.loop-sample-preserved
loop-sample-preserved g c =
    let l = c.loop-sample in
    record {
      counted = total_more _ _ c.args.w.now l.sample-index c.sample-item.result _ _ c.loop-sample-test.true
          c.sample-item.is l.invariant.counted l.invariant.weight_stays c.see_one.ensures.counted;
      weight_stays = c.see_one.ensures.weight_stays ∙ l.invariant.weight_stays;
      light = omega (arith, c.see_one.ensures.counted, c.see_one.ensures.light, l.invariant.light);
    }
