use Rattle.std.proofs.Common.{◌≡◌, ◌≤◌, ◌-◌, length, map}
use Rattle.fsb_core.specs.Benches.{bench_view, objects_of}
use Rattle.fsb_timely.specs.Asked.{Asked}
use Rattle.fsb_play.proofs.clocks.take_clocks.Given as goal

abbrev pub invariant-loop-bench : goal.invariant-loop-bench
invariant-loop-bench g l = record {
  plan_stays : (bench_view l.bench).run.plan ≡ (bench_view l.initial.bench).run.plan;
  within : length (bench_view l.bench).run.trace ≤ (bench_view l.bench).run.plan.clocks;
  asked : Asked
      (map (λ h. (goal.Hazard-dyn g (h.vtable, h.value)).told h.value) (objects_of l.initial.bench))
      (bench_view l.bench).run.choices (bench_view l.bench).run.holds;
  told_stays : map (λ h. (goal.Hazard-dyn g (h.vtable, h.value)).told h.value) (objects_of l.bench)
      ≡ map (λ h. (goal.Hazard-dyn g (h.vtable, h.value)).told h.value) (objects_of l.initial.bench);
  kinds_stay : map (λ h. (goal.Hazard-dyn g (h.vtable, h.value)).is_scripted h.value) (objects_of l.bench)
      ≡ map (λ h. (goal.Hazard-dyn g (h.vtable, h.value)).is_scripted h.value) (objects_of l.initial.bench);
}

abbrev pub decreases-loop-bench : goal.decreases-loop-bench
decreases-loop-bench g l =
    (bench_view l.bench).run.plan.clocks - length (bench_view l.bench).run.trace
