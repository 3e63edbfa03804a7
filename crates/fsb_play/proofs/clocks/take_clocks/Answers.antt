use Rattle.std.proofs.Common.{◌≡◌, ◌<◌, ◌≤◌, length, refl, ap, ◌∙◌, arith}
use Rattle.fsb_script.specs.Plans.{PlanView}
use Rattle.fsb_core.specs.Benches.{bench_view, objects_of}
use Rattle.fsb_play.proofs.AskedMore.{asked-clock, asked-none, one-sample, same-plan}
use Rattle.fsb_play.proofs.clocks.take_clocks.Goals as goal

pub loop-bench-init : goal.loop-bench-init
loop-bench-init g c = record {
  plan_stays = refl;
  within = omega (arith, c.requires);
  asked = asked-none _ (bench_view c.args.bench.now).run c.is_simulated.ensures.timely c.requires;
  told_stays = refl;
  kinds_stay = refl;
}

pub loop-bench-smaller : goal.loop-bench-smaller
loop-bench-smaller g c =
    let old = bench_view c.loop-bench.bench in
    let new = bench_view c.step.new.self in
    let more = one-sample _ old new c.step.ensures.stepped in
    let clocks : new.run.plan.clocks ≡ old.run.plan.clocks =
    ap (λ (p : PlanView). p.clocks) (same-plan _ old new c.step.ensures.stepped) in
    let least : c.plan.result.now.clocks ≡ old.run.plan.clocks = ap (λ (p : PlanView). p.clocks) c.plan.ensures in
    omega (arith, more, clocks, least, c.clock.ensures, c.loop-bench-test.true)

pub loop-bench-preserved : goal.loop-bench-preserved
loop-bench-preserved g c =
    let old = bench_view c.loop-bench.bench in
    let new = bench_view c.step.new.self in
    let more = one-sample _ old new c.step.ensures.stepped in
    let clocks : new.run.plan.clocks ≡ old.run.plan.clocks =
    ap (λ (p : PlanView). p.clocks) (same-plan _ old new c.step.ensures.stepped) in
    let least : c.plan.result.now.clocks ≡ old.run.plan.clocks = ap (λ (p : PlanView). p.clocks) c.plan.ensures in
    record {
      plan_stays = same-plan _ old new c.step.ensures.stepped ∙ c.loop-bench.invariant.plan_stays;
      within = omega (arith, more, clocks, least, c.clock.ensures, c.loop-bench-test.true);
      asked = asked-clock _ _ old new c.loop-bench.invariant.told_stays c.step.ensures.stepped
          c.is_simulated-in-loop-bench.ensures.timely c.loop-bench.invariant.asked;
      told_stays = c.step.ensures.told_stays ∙ c.loop-bench.invariant.told_stays;
      kinds_stay = c.step.ensures.kinds_stay ∙ c.loop-bench.invariant.kinds_stay;
    }

pub returns-clause-whole : goal.returns-clause-whole
returns-clause-whole g c =
    let last = bench_view c.loop-bench.bench in
    let most : c.plan.result.now.clocks ≡ last.run.plan.clocks = ap (λ (p : PlanView). p.clocks) c.plan.ensures in
    let clocks : last.run.plan.clocks ≡ (bench_view c.args.bench.now).run.plan.clocks =
    ap (λ (p : PlanView). p.clocks) c.loop-bench.invariant.plan_stays in
    let within = c.loop-bench.invariant.within in
    omega (arith, most, clocks, within, c.clock.ensures, c.loop-bench-test.false)
