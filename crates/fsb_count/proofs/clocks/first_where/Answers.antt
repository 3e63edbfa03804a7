use Rattle.std.proofs.Common.{◌<◌, true, false, sym, arith}
use Rattle.fsb_count.proofs.First.{first_where-at, first_where-off}
use Rattle.fsb_count.proofs.clocks.first_where.Goals as goal

pub returns-then-test-clause-value : goal.returns-then-test-clause-value
returns-then-test-clause-value g c = λ p h.
    sym (first_where-at p c.args.n c.loop-c.c c.loop-c-test.true
    (sym (h c.loop-c.c true c.loop-c-test.true c.if-test.ensures))
    (λ k l. sym (h k false (let below : k < c.args.n = omega arith in below) (c.loop-c.invariant k l))))

pub returns-clause-value : goal.returns-clause-value
returns-clause-value g c =
    λ p h. sym (first_where-off p c.args.n
    (λ k l. sym (h k false l (c.loop-c.invariant k (let below : k < c.loop-c.c = omega arith in below)))))
