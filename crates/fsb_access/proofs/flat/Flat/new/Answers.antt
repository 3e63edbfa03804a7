use Rattle.std.proofs.Common.{arith, length-drop}
use Rattle.std.proofs.lemmas.List.{take_rest}
use Rattle.fsb_access.proofs.Chunks.{state_of-empty, state_of-set}
use Rattle.fsb_access.proofs.flat.Flat.new.Goals as goal

pub loop-done-init : goal.loop-done-init
loop-done-init c = record { within = omega arith; stands = state_of-empty c.new.result.entries c.new.ensures.empty }

pub loop-done-preserved : goal.loop-done-preserved
loop-done-preserved c = record {
  within = omega (
    arith,
    c.loop-done.invariant.within,
    c.in_ok-done.ensures.within,
    length-drop c.loop-done.done c.args.sets.now,
  );
  stands =
      state_of-set c.loop-done.flat c.set.new.self c.args.sets.now c.loop-done.done c.in_ok-done.field-0
      c.loop-done.invariant.stands (rw take_rest at c.in_ok-done.ensures.put) c.in_ok-done.ensures.last;
}
