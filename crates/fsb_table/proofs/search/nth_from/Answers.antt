use Rattle.std.proofs.Common.{◌≡◌, Some, true, false, sym, ap, subst, ◌∙◌, ◌+◌, arith}
use Rattle.fsb_count.specs.Clocks.{count_where, nth_where, from_clock}
use Rattle.fsb_count.proofs.Interface.{count_where-passed, count_where-failed, count_where-mono, nth_where-at}
use Rattle.fsb_count.proofs.Interface.{nth_where-past}
use Rattle.fsb_table.proofs.FromClock.{from_high, count_from-start}
use Rattle.fsb_table.proofs.search.nth_from.Goals as goal
use Rattle.fsb_table.proofs.search.nth_from.Goals.{then-test+else-passed-k, else-test}

pub loop-c-init : goal.loop-c-init
loop-c-init g c = record {
  low = omega arith;
  before = omega arith;
  count = λ p h. sym (count_from-start c.args.first p c.args.first (omega arith));
}

pub returns-then-passed-k-clause-value : goal.returns-then-passed-k-clause-value
returns-then-passed-k-clause-value g c = λ p h.
    let place : count_where (from_clock c.args.first p) c.loop-c.c ≡ c.args.k =
    sym (c.loop-c.invariant.count p h) ∙ c.if-passed-k.true in
    let passes : from_clock c.args.first p c.loop-c.c ≡ true =
    from_high c.args.first p c.loop-c.c c.loop-c.invariant.low
    ∙ sym (h c.loop-c.c true c.loop-c-test.true c.if-test.ensures) in
    sym (subst (λ m. nth_where (from_clock c.args.first p) m c.args.n ≡ Some c.loop-c.c) place
    (nth_where-at (from_clock c.args.first p) c.args.n c.loop-c.c c.loop-c-test.true passes))

pub loop-c-preserved : goal.loop-c-preserved
loop-c-preserved g c =
    elim c.if-test.branch [
      | then-test+else-passed-k w ↦ record {
        low = omega (arith, c.loop-c.invariant.low);
        before = omega arith;
        count = λ p h.
            let passes =
            from_high c.args.first p c.loop-c.c c.loop-c.invariant.low
            ∙ sym (h c.loop-c.c true c.loop-c-test.true w.if-test.ensures) in
            w.passed-is ∙ ap (λ m. m + 1) (c.loop-c.invariant.count p h)
            ∙ sym (count_where-passed (from_clock c.args.first p) c.loop-c.c passes);
      }
      | else-test w ↦ record {
        low = omega (arith, c.loop-c.invariant.low);
        before = omega arith;
        count = λ p h.
            let fails =
            from_high c.args.first p c.loop-c.c c.loop-c.invariant.low
            ∙ sym (h c.loop-c.c false c.loop-c-test.true w.if-test.ensures) in
            w.passed-is ∙ c.loop-c.invariant.count p h
            ∙ sym (count_where-failed (from_clock c.args.first p) c.loop-c.c fails);
      }
    ]

pub returns-clause-value : goal.returns-clause-value
returns-clause-value g c = λ p h.
    sym (nth_where-past (from_clock c.args.first p) c.args.k c.args.n
    (let most = count_where-mono (from_clock c.args.first p) c.args.n c.loop-c.c (omega arith) in
    let count = c.loop-c.invariant.count p h in omega (arith, c.loop-c.invariant.before)))
