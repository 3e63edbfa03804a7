use Rattle.std.proofs.Common.{append-nil, arith, sym}
use Rattle.fsb_signal.specs.DumpText.{texts_from}
use Rattle.fsb_signal.proofs.Interface.{texts_from-step}
use Rattle.scope_save.proofs.save.put_rows.Goals as goal

pub loop-line-init : goal.loop-line-init
unfolding texts_from
loop-line-init c = sym (append-nil _)

pub loop-line-preserved : goal.loop-line-preserved
loop-line-preserved c = texts_from-step _ 0 _ _ _ _ (omega arith) c.loop-line.invariant c.in_ok-put_row.ensures
