use Rattle.std.proofs.Common.{arith}
use Rattle.scope_wiring.specs.Candidates.{is_greatest}
use Rattle.scope_wiring.proofs.Best.{greatest-more}
use Rattle.scope_wiring.proofs.candidates.greatest.Goals as goal

pub loop-count-init : goal.loop-count-init
unfolding is_greatest
loop-count-init c count = grind arith

pub loop-count-preserved : goal.loop-count-preserved
loop-count-preserved c =
    greatest-more c.args.counts.now c.loop-count.count-index c.loop-count.greatest c.max-greatest.result 0
    (omega (arith, c.loop-count-test.true)) c.loop-count.invariant
    (λ count. grind (arith, c.max-greatest.ensures))
