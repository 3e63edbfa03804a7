use Rattle.std.proofs.Common.{arith}
use Rattle.scope_pick.proofs.Firsts.{firsts-taken}
use Rattle.scope_pick.proofs.header.first_codes.Goals as goal

pub loop-index-preserved : goal.loop-index-preserved
loop-index-preserved c =
    firsts-taken (λ v. v.code.items) c.loop-index.firsts c.keep_first.new.firsts c.args.variables.now
    c.index-variables-index.result c.loop-index.index c.deref.result.now (omega (arith, c.loop-index-test.true))
    c.index-variables-index.is c.deref.ensures.value c.in_ok-keep_first.ensures c.loop-index.invariant
