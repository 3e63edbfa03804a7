use Rattle.std.proofs.Common.{arith}
use Rattle.scope_write.proofs.ValueText.{shown_digits-step}
use Rattle.scope_write.proofs.value.put_digits.Goals as goal

pub loop-place-preserved : goal.loop-place-preserved
loop-place-preserved g c = record {
  within = omega (arith, c.loop-place.invariant.within);
  len = omega (arith, c.loop-place.invariant.len, c.push.ensures.len, c.loop-place-test.true);
  ahead = rw c.push.ensures.items
      (shown_digits-step _ _ _ _ _ _ c.loop-place-test.true c.digit_at.ensures c.loop-place.invariant.ahead);
}
