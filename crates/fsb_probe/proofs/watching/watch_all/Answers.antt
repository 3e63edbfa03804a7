use Rattle.std.proofs.Common.{◌≡◌, ◌<◌, length, arith, ◌∙◌}
use Rattle.std.proofs.Math.Seq.{map-set_same}
use Rattle.fsb_probe.proofs.Totals.{watched_at, watched_all}
use Rattle.fsb_probe.proofs.watching.watch_all.Goals as goal

pub loop-probe-preserved : goal.loop-probe-preserved
loop-probe-preserved g c =
    let l = c.loop-probe in
    let item = c.probe-item.result in
    let new = c.watch_one.new.probe in
    let within : l.probe-index < length c.args.probes.now = omega (arith, c.loop-probe-test.true) in
    record {
      counted = watched_at _ _ c.args.w.now l.probe-items c.args.probes.now l.probe-index item new within
          l.invariant.weights_stay l.invariant.counted c.watch_one.ensures.counted;
      weights_stay = map-set_same _ l.probe-items l.probe-index new item c.watch_one.ensures.weight_stays
          ∙ l.invariant.weights_stay;
    }

pub returns-clause-counted : goal.returns-clause-counted
returns-clause-counted g c =
    let l = c.loop-probe in
    let end : l.probe-index ≡ length c.args.probes.now = omega (arith, c.loop-probe-test.false) in
    watched_all _ _ c.args.w.now l.probe-items c.args.probes.now l.probe-index end l.invariant.counted
