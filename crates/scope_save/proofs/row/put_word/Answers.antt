use Rattle.scope_save.proofs.Steps.{word-step}
use Rattle.scope_save.proofs.row.put_word.Goals as goal

pub loop-bit-preserved : goal.loop-bit-preserved
loop-bit-preserved c =
    word-step _ _ _ _ _ _ c.loop-bit-test.true c.in_ok-put_pieces.ensures c.loop-bit.invariant
