use Rattle.std.proofs.Common.{◌≡◌, true, false, refl, sym, ap, ◌∙◌, ◌+◌, arith}
use Rattle.fsb_count.specs.Clocks.{count_where}
use Rattle.fsb_count.proofs.Count.{count_where-passed, count_where-failed}
use Rattle.fsb_count.proofs.clocks.count_where.Goals as goal
use Rattle.fsb_count.proofs.clocks.count_where.Goals.{then-test, else-test}

pub loop-c-init : goal.loop-c-init
unfolding count_where
loop-c-init g c = record { most = omega arith; count = λ p h. refl }

pub loop-c-preserved : goal.loop-c-preserved
loop-c-preserved g c =
    elim c.if-test.branch [
      | then-test w ↦ record {
        most = omega arith;
        count = λ p h.
            w.count-is ∙ ap (λ m. m + 1) (c.loop-c.invariant.count p h)
            ∙ sym (count_where-passed p c.loop-c.c (sym (h c.loop-c.c true c.loop-c-test.true w.if-test.ensures)));
      }
      | else-test w ↦ record {
        most = omega arith;
        count = λ p h.
            w.count-is ∙ c.loop-c.invariant.count p h
            ∙ sym (count_where-failed p c.loop-c.c (sym (h c.loop-c.c false c.loop-c-test.true w.if-test.ensures)));
      }
    ]

pub returns : goal.returns
returns g c = λ p h. c.loop-c.invariant.count p h
    ∙ ap (count_where p) (let e : c.loop-c.c ≡ c.args.n = omega arith in e)
