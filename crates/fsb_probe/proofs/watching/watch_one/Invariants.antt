use Rattle.std.proofs.Common.{◌≡◌, ◌≤◌, ◌*◌, take}
use Rattle.fsb_probe.specs.Weights.{total_weight}
use Rattle.fsb_probe.proofs.watching.watch_one.Given as goal

-- the total is the weight of the samples shown so far, each of which weighs at most 64
abbrev pub invariant-loop-sample : goal.invariant-loop-sample
invariant-loop-sample g l =
    let dyn = goal.Probe-dyn g in
    record {
      counted : (dyn (l.probe.vtable, l.probe.value)).counted l.probe.value
          ≡ total_weight ((dyn (l.fn.probe.vtable, l.fn.probe.value)).weight l.fn.probe.value)
          (take l.sample-index l.w);
      weight_stays : (dyn (l.probe.vtable, l.probe.value)).weight l.probe.value
          ≡ (dyn (l.fn.probe.vtable, l.fn.probe.value)).weight l.fn.probe.value;
      light : (dyn (l.probe.vtable, l.probe.value)).counted l.probe.value ≤ 64 * l.sample-index;
    }
