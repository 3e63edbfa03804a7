use Rattle.std.proofs.Common.{◌≡◌, ◌∷◌, ◌++◌, [], None, Option, ◌+◌, length, refl, sym, ap, ◌∙◌, subst, arith}
use Rattle.std.specs.Option.{IfSome}
use Rattle.std.proofs.lemmas.Grind.{common_steps}
use Rattle.fsb_core.specs.Benches.{bench_view}
use Rattle.fsb_rules.specs.declared.broken.Broken.{Broken}
use Rattle.fsb_rules.specs.Checker.{Stands, as_broken}
use Rattle.fsb_script.specs.Plans.{PlanView}
use Rattle.fsb_signal.specs.declared.marks.Marks.{Marks}
use Rattle.fsb_signal.specs.Parity.{marks_in}
use Rattle.fsb_trace.specs.At.{Trace}
use Rattle.fsb_trace.specs.Verdict.{verdict}
use Rattle.example_monitor.specs.Received.{received, received_at}
use Rattle.example_monitor.proofs.Receiving.{received-length, received-more, received-none, no_sample, unbroken, newest}
use Rattle.example_monitor.proofs.watch.Goals as goal

pub loop-bench-init : goal.loop-bench-init
loop-bench-init g c =
    let run = (bench_view c.args.bench.now).run in
    let marks : c.of_profile.result ≡ marks_in run.plan.profile =
    c.of_profile.ensures ∙ ap (λ (p : PlanView). marks_in p.profile) c.plan.ensures in
    let none : [] ≡ received c.args.lost run.trace = sym (ap (received c.args.lost) c.requires) in
    record {
      plan_stays = refl;
      checker = subst (λ (h : Trace). Stands c.new-checker.result (marks_in run.plan.profile) h) none
          (subst (λ (m : Marks). Stands c.new-checker.result m []) marks c.new-checker.ensures);
      broken = no_sample (marks_in run.plan.profile) ∙ ap (λ h. as_broken (verdict (marks_in run.plan.profile) h)) none;
      stops = tt;
    }

pub feed-broken-requires : goal.feed-broken-requires
feed-broken-requires g c =
    let run = (bench_view c.loop-bench.bench).run in
    let size = received-length c.args.lost 0 run.trace in (
      marks_in run.plan.profile,
      received c.args.lost run.trace,
      c.loop-bench.invariant.checker,
      omega (arith, size, c.clock-clock.ensures, c.loop-bench-test.true),
    )

pub loop-bench-preserved : goal.loop-bench-preserved
loop-bench-preserved g c =
    let run = (bench_view c.loop-bench.bench).run in
    let new = (bench_view c.next_sample-sample.new.bench).run in
    let h = received c.args.lost run.trace in
    let marks : marks_in run.plan.profile ≡ marks_in new.plan.profile =
    ap (λ (p : PlanView). marks_in p.profile) (sym c.next_sample-sample.ensures.plan_stays) in
    let unheard : c.loop-bench.broken ≡ None = grind (arith, common_steps, c.loop-bench-test.true) in
    let last : received_at c.args.lost (length run.trace) c.next_sample-sample.result ≡ c.receive.result =
    ap (λ n. received_at c.args.lost n c.next_sample-sample.result) (sym c.clock-clock.ensures) ∙ sym c.receive.ensures in
    let next : h ++ c.receive.result ∷ [] ≡ received c.args.lost new.trace =
    sym (ap (received c.args.lost) c.next_sample-sample.ensures.trace
    ∙ received-more c.args.lost run.trace c.next_sample-sample.result
    ∙ ap (λ x. h ++ x ∷ []) last) in
    record {
      plan_stays = c.next_sample-sample.ensures.plan_stays ∙ c.loop-bench.invariant.plan_stays;
      checker = subst (λ (m : Marks). Stands c.feed-broken.new.self m (received c.args.lost new.trace)) marks
          (subst (λ (t : Trace). Stands c.feed-broken.new.self (marks_in run.plan.profile) t) next
          (c.feed-broken.ensures.stands (marks_in run.plan.profile) h c.loop-bench.invariant.checker));
      broken = c.feed-broken.ensures.verdict (marks_in run.plan.profile) h c.loop-bench.invariant.checker
          ∙ ap (λ t. as_broken (verdict (marks_in run.plan.profile) t)) next
          ∙ ap (λ m. as_broken (verdict m (received c.args.lost new.trace))) marks;
      stops = subst (λ (o : Option Broken). IfSome o (λ (b : Broken). length new.trace ≡ b.clock + 1))
          (sym (c.feed-broken.ensures.verdict (marks_in run.plan.profile) h c.loop-bench.invariant.checker))
          (newest (marks_in run.plan.profile) h c.receive.result (verdict (marks_in run.plan.profile) (h ++ c.receive.result ∷ []))
          (length new.trace) (sym c.loop-bench.invariant.broken ∙ unheard) refl
          (sym (received-length c.args.lost 0 new.trace) ∙ ap length (sym next)));
    }

pub returns-clause-lawful : goal.returns-clause-lawful
returns-clause-lawful g c none =
    let run = (bench_view c.loop-bench.bench).run in
    let marks = marks_in run.plan.profile in
    c.loop-bench.invariant.broken
    ∙ ap (λ l. as_broken (verdict marks (received l run.trace))) none
    ∙ ap (λ t. as_broken (verdict marks t)) (received-none run.trace)
    ∙ ap as_broken c.breaks_no_rule.ensures
    ∙ unbroken
