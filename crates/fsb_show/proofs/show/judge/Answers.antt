use Rattle.std.proofs.Common.{◌≡◌, ◌<◌, ◌+◌, ◌∷◌, ◌++◌, [], length, take, refl, ap, ◌∙◌, subst, arith}
use Rattle.std.proofs.Math.Seq.{take-length}
use Rattle.std.proofs.lemmas.List.{length-take-le}
use Rattle.fsb_count.specs.Clocks.{first_where}
use Rattle.fsb_rules.specs.Checker.{Stands, as_broken}
use Rattle.fsb_trace.specs.At.{Trace}
use Rattle.fsb_trace.specs.Verdict.{verdict}
use Rattle.fsb_show.proofs.Traces.{next_taken}
use Rattle.fsb_show.proofs.show.judge.Goals as goal

pub loop-sample-init : goal.loop-sample-init
unfolding as_broken verdict first_where
loop-sample-init c = record { checker = c.new-checker.ensures; broken = refl }

pub feed-broken-requires : goal.feed-broken-requires
feed-broken-requires c =
    let below : c.loop-sample.sample-index < length c.args.w.now = c.loop-sample-test.true in (
      c.args.marks,
      take c.loop-sample.sample-index c.args.w.now,
      c.loop-sample.invariant.checker,
      (let size = length-take-le c.loop-sample.sample-index c.args.w.now (omega (arith, below)) in omega
          (arith, size, below, c.requires)),
    )

pub loop-sample-preserved : goal.loop-sample-preserved
loop-sample-preserved c =
    let w = c.args.w.now in
    let i = c.loop-sample.sample-index in
    let next : take i w ++ c.sample-item.result ∷ [] ≡ take (i + 1) w =
    next_taken w i c.sample-item.result c.loop-sample-test.true c.sample-item.is in
    record {
      checker = subst (λ (h : Trace). Stands c.feed-broken.new.self c.args.marks h) next
          (c.feed-broken.ensures.stands c.args.marks (take i w) c.loop-sample.invariant.checker);
      broken = c.feed-broken.ensures.verdict c.args.marks (take i w) c.loop-sample.invariant.checker
          ∙ ap (λ h. as_broken (verdict c.args.marks h)) next;
    }

pub returns : goal.returns
returns c =
    let end : c.loop-sample.sample-index ≡ length c.args.w.now = omega (arith, c.loop-sample-test.false) in
    c.loop-sample.invariant.broken
    ∙ ap (λ n. as_broken (verdict c.args.marks (take n c.args.w.now))) end
    ∙ ap (λ h. as_broken (verdict c.args.marks h)) (take-length c.args.w.now)
