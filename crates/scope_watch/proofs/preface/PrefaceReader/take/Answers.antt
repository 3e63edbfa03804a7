use Rattle.std.proofs.Common.{refl, arith}
use Rattle.scope_watch.proofs.Prefaces.{byte-taken, piece-taken}
use Rattle.scope_watch.proofs.preface.PrefaceReader.take.Goals as goal

pub loop-at-preserved : goal.loop-at-preserved
loop-at-preserved c = λ fed h.
    byte-taken _ fed c.args.piece.now c.loop-at.at _ _ c.loop-at-test.true refl
    (c.take_byte.ensures _ (c.loop-at.invariant fed h))

pub returns : goal.returns
returns c = λ fed h.
    piece-taken _ fed c.args.piece.now c.loop-at.at (omega (arith, c.loop-at-test.false)) (c.loop-at.invariant fed h)
