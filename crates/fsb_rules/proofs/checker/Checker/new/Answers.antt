use Rattle.std.proofs.Common.{refl}
use Rattle.fsb_rules.proofs.Feeds.{new_stands}
use Rattle.fsb_rules.proofs.checker.Checker.new.Goals as goal

pub returns : goal.returns
returns c = new_stands _ _ (record {
  found = refl;
  clock = refl;
  recent = c.new.ensures;
  arbiter = c.new-2.ensures;
  beginner = refl;
  queue = c.new-3.ensures;
  outstanding = c.new-4.ensures;
}) refl
