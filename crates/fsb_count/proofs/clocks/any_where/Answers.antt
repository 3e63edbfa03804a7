use Rattle.std.proofs.Common.{◌<◌, true, false, sym, arith}
use Rattle.fsb_count.proofs.Any.{any_where-at, any_where-off}
use Rattle.fsb_count.proofs.clocks.any_where.Goals as goal

pub returns-then-test : goal.returns-then-test
returns-then-test g c = λ p h.
    sym (any_where-at p c.args.n c.loop-c.c c.loop-c-test.true
    (sym (h c.loop-c.c true c.loop-c-test.true c.if-test.ensures)))

pub returns : goal.returns
returns g c =
    λ p h. sym (any_where-off p c.args.n
    (λ k l. sym (h k false l (c.loop-c.invariant k (let below : k < c.loop-c.c = omega arith in below)))))
