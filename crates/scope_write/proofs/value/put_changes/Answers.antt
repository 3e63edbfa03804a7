use Rattle.std.proofs.Common.{append-nil, arith, sym}
use Rattle.fsb_signal.specs.DumpText.{texts_from}
use Rattle.fsb_signal.proofs.Interface.{texts_from-step}
use Rattle.scope_write.proofs.value.put_changes.Goals as goal

pub loop-number-init : goal.loop-number-init
unfolding texts_from
loop-number-init g c = record { len = omega arith; items = sym (append-nil _) }

pub loop-number-preserved : goal.loop-number-preserved
loop-number-preserved g c = record {
  len = omega (arith, c.loop-number.invariant.len, c.put_change.ensures.len, c.loop-number.auto.number);
  items = texts_from-step _ 1 _ _ _ _ c.loop-number.auto.number c.loop-number.invariant.items
      c.put_change.ensures.items;
}
