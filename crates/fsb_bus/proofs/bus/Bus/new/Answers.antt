use Rattle.std.proofs.Common.{None, false, replicate}
use Rattle.fsb_bus.proofs.bus.Bus.new.Goals as goal

pub returns-clause-view : goal.returns-clause-view
returns-clause-view c = λ i. record {
  agents = c.in_ok-agents_of.ensures i;
  queue = c.in_ok-new.ensures i;
  bridge = c.new-4.ensures i;
  served = c.new-5.ensures i;
  moved = replicate 32 0;
  memory = λ line. c.in_ok-memory_of.ensures.bytes line i;
  latest = None;
  started = c.in_ok-with_capacity.ensures.items i;
  kept = replicate 4 false;
}
