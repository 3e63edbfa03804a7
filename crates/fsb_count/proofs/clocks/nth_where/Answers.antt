use Rattle.std.proofs.Common.{◌≡◌, Some, true, false, refl, sym, ap, subst, ◌∙◌, ◌+◌, arith}
use Rattle.fsb_count.specs.Clocks.{count_where, nth_where}
use Rattle.fsb_count.proofs.Count.{count_where-passed, count_where-failed}
use Rattle.fsb_count.proofs.Nth.{nth_where-at, nth_where-past}
use Rattle.fsb_count.proofs.clocks.nth_where.Goals as goal
use Rattle.fsb_count.proofs.clocks.nth_where.Goals.{then-test+else-passed-k, else-test}

pub loop-c-init : goal.loop-c-init
unfolding count_where
loop-c-init g c = record { most = omega arith; before = omega arith; count = λ p h. refl }

pub returns-then-passed-k-clause-value : goal.returns-then-passed-k-clause-value
returns-then-passed-k-clause-value g c = λ p h.
    let place : count_where p c.loop-c.c ≡ c.args.k = sym (c.loop-c.invariant.count p h) ∙ c.if-passed-k.true in
    sym (subst (λ m. nth_where p m c.args.n ≡ Some c.loop-c.c) place
    (nth_where-at p c.args.n c.loop-c.c c.loop-c-test.true
    (sym (h c.loop-c.c true c.loop-c-test.true c.if-test.ensures))))

pub loop-c-preserved : goal.loop-c-preserved
loop-c-preserved g c =
    elim c.if-test.branch [
      | then-test+else-passed-k w ↦ record {
        most = omega arith;
        before = omega arith;
        count = λ p h.
            w.passed-is ∙ ap (λ m. m + 1) (c.loop-c.invariant.count p h)
            ∙ sym (count_where-passed p c.loop-c.c (sym (h c.loop-c.c true c.loop-c-test.true w.if-test.ensures)));
      }
      | else-test w ↦ record {
        most = omega arith;
        before = omega arith;
        count = λ p h.
            w.passed-is ∙ c.loop-c.invariant.count p h
            ∙ sym (count_where-failed p c.loop-c.c (sym (h c.loop-c.c false c.loop-c-test.true w.if-test.ensures)));
      }
    ]

pub returns-clause-value : goal.returns-clause-value
returns-clause-value g c = λ p h.
    sym (nth_where-past p c.args.k c.args.n
    (let e : c.loop-c.c ≡ c.args.n = omega arith in
    let count = c.loop-c.invariant.count p h ∙ ap (count_where p) e in omega arith))
