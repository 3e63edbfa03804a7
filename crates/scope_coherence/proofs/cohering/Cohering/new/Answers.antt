use Rattle.std.proofs.Common.{refl, arith}
use Rattle.scope_coherence.specs.Found.{first_joints}
use Rattle.scope_coherence.proofs.Judging.{none-first}
use Rattle.scope_coherence.proofs.cohering.Cohering.new.Goals as goal

pub returns : goal.returns
returns c = record {
  unbroken = none-first c.args.marks (first_joints c.args.is_later);
  checker = c.new.ensures;
  coherence = c.pass_of.ensures.stands;
  count = refl;
  few = let none = c.pass_of.ensures.fed in omega (arith, none);
  none = refl;
}
