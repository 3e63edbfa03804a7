use Rattle.std.proofs.Common.{[], refl}
use Rattle.scope_coherence.proofs.Passing.{none-before}
use Rattle.scope_coherence.proofs.coherer.Coherer.new.Goals as goal

pub returns-clause-none : goal.returns-clause-none
returns-clause-none c = record {
  samples = [];
  parted = c.new.ensures;
  stands = none-before c.new-2.result c.args.part c.args.marks c.new.ensures.before (c.new-2.ensures c.args.part refl);
}
