use Rattle.std.proofs.Common.{◌≡◌, ◌++◌, map, take, drop}
use Rattle.fsb_probe.specs.Weights.{total_weight}
use Rattle.fsb_probe.proofs.watching.watch_all.Given as goal

-- the objects so far have the weights of the samples as their totals
abbrev pub invariant-loop-probe : goal.invariant-loop-probe
invariant-loop-probe g l = record {
  counted : map (λ b. (goal.Probe-dyn g (b.vtable, b.value)).counted b.value) l.probe-items
      ≡ map (λ b. total_weight ((goal.Probe-dyn g (b.vtable, b.value)).weight b.value) l.w)
      (take l.probe-index l.fn.probes)
      ++ map (λ b. (goal.Probe-dyn g (b.vtable, b.value)).counted b.value) (drop l.probe-index l.fn.probes);
  weights_stay : map (λ b. (goal.Probe-dyn g (b.vtable, b.value)).weight b.value) l.probe-items
      ≡ map (λ b. (goal.Probe-dyn g (b.vtable, b.value)).weight b.value) l.fn.probes;
}
